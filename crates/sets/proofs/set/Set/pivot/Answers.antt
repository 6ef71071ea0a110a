use Rattle.std.proofs.Common.{◌<◌, ◌≤◌, length, take, vec_items, sym, ◌∙◌, arith, rules}
use Rattle.std.proofs.lemmas.List.{length-take-le, get_or-take}
use Rattle.sets.proofs.Looked.{copied_found, found_as, same_default}
use Rattle.sets.proofs.Stores.{stored_offset}
use Rattle.sets.proofs.set.Set.pivot.Goals as goal

pub returns : goal.returns
returns g c =
    let s = c.args.self.now in
    let k = c.args.k in
    let xs = take s.held s.pivots in
    let enough : s.held ≤ length s.pivots = search rules in
    let long = length-take-le s.held s.pivots enough in
    let look = c.get.ensures.lookup in
    found_as _ _ c.copied.result c.get.result (search rules) (copied_found xs k _ c.get.result look.3 look.1 (λ l. omega arith)
    (λ x l at.
    let inside : k < s.held = omega arith in
    (inside, at ∙ same_default xs k x 0 l ∙ get_or-take s.held s.pivots k 0 inside ∙ sym (stored_offset g.T.Arithmetic.field.ops g.T.Arithmetic.value s.unknowns s.held (vec_items s.memory) s.pivots k inside))))
