use Rattle.std.proofs.Common.{◌≡◌, ℕ, ◌+◌, ◌<◌, get_or, set, sym, ap, ◌∙◌, subst, arith, length-set}
use Rattle.std.proofs.lemmas.List.Edits.{fill_by_more}
use Rattle.arithmetic.specs.Runs.{row}
use Rattle.arithmetic.proofs.Rows.{row_inside}
use Rattle.sets.proofs.set.choosing.codes_of.Goals as goal

pub loop-i-preserved : goal.loop-i-preserved
loop-i-preserved g c =
    let F = g.T.Arithmetic.field.ops in
    let value = g.T.Arithmetic.value in
    let rest = c.args.rest.now in
    let i = c.loop-i.i in
    let f : ℕ → ℕ = λ k. F.code (row F value rest k) in
    let e : c.code.result ≡ f i = c.code.ensures ∙ ap F.code (sym (row_inside F value rest i c.index-rest-i.result (omega arith) c.index-rest-i.is)) in
    (subst (λ v. (k : ℕ) → k < i + 1 → get_or (set c.loop-i.codes i v) k 0 ≡ f k) (sym e) (fill_by_more f c.loop-i.codes i 0 (omega arith) c.loop-i.invariant.0), simp length-set c.loop-i.invariant.1)
