use Rattle.std.proofs.Common.{◌+◌, ◌-◌, ap, ◌∙◌, ap₂}
use Rattle.arithmetic.specs.Runs.{row}
use Rattle.columns.specs.Factors.{Packed, worked, lead, combination, motion}
use Rattle.sets.specs.Memory.{packed}
use Rattle.sets.specs.Sets.{state}
use Rattle.sets.specs.declared.reply.Reply.TheVariants.{Fixed, Free}
use Rattle.sets.proofs.Asked.{enquired_promises}
use Rattle.sets.proofs.Replies.{enquired_fixed, enquired_free}
use Rattle.sets.proofs.set.Set.enquire.Goals as goal

pub returns-in-None-clause-replied : goal.returns-in-None-clause-replied
unfolding packed
returns-in-None-clause-replied g c =
    let F = g.T.Arithmetic.field.ops in
    let value = g.T.Arithmetic.value in
    let s = state F value c.args.self.now in
    let lent = c.factors-factors.ensures.lent in
    let w = row F value c.work.new.column in
    let x = row F value c.combine.new.run in
    let works = c.work.ensures ∙ ap₂ (worked F) lent (ap (row F value) c.copy_from_slice.ensures.after) in
    let first = c.in-None.ensures.first ∙ ap (λ (u : Packed g.T.Arithmetic.field.Carrier). lead F (u.height - u.rank) (λ i. w (u.rank + i))) lent in
    let combines = c.combine.ensures ∙ ap (λ u. combination F u w) lent in
    enquired_promises F g.met.T.Arithmetic.lawful value s c.args.query.now c.combine.new.run (Fixed c.value.result)
    (enquired_fixed F s (row F value c.args.query.now) w works x (value c.value.result) first combines c.value.ensures)

pub returns-in-Some-clause-replied : goal.returns-in-Some-clause-replied
unfolding packed
returns-in-Some-clause-replied g c =
    let F = g.T.Arithmetic.field.ops in
    let value = g.T.Arithmetic.value in
    let s = state F value c.args.self.now in
    let lent = c.factors-factors.ensures.lent in
    let w = row F value c.work.new.column in
    let x = row F value c.show_motion.new.run in
    let works = c.work.ensures ∙ ap₂ (worked F) lent (ap (row F value) c.copy_from_slice.ensures.after) in
    let first = c.in-Some.ensures.first ∙ ap (λ (u : Packed g.T.Arithmetic.field.Carrier). lead F (u.height - u.rank) (λ i. w (u.rank + i))) lent in
    let moves = c.show_motion.ensures ∙ ap (λ u. motion F u w c.in-Some.place) lent in
    enquired_promises F g.met.T.Arithmetic.lawful value s c.args.query.now c.show_motion.new.run Free
    (enquired_free F s (row F value c.args.query.now) w works x c.in-Some.place first moves)
