use Rattle.std.proofs.Common.{length, rules, arith, length-set, length-append}
use Rattle.columns.specs.Picks.{Spares}
use Rattle.columns.specs.Lemmas.Picks.{fit_by_test, said, cases_map, keep_free_in_words}
use Rattle.columns.proofs.Searches.{shown_whole, shown_next, kept}
use Rattle.columns.proofs.Zips.{counted_turn, counted_end}
use Rattle.columns.proofs.keep_free.KeepFreeChooser.choose.Goals as goal

pub loop-i-preserved : goal.loop-i-preserved
loop-i-preserved g c =
    let p = g.C.Chooser.pick c.args.self.now.below in
    let marks = c.args.self.now.marks in
    let cs = c.args.codes.now in
    let us = c.args.unknowns.now in
    let fit = fit_by_test cs us c.fits.result c.fits.ensures c.if-not-fits.false in
    let turn = counted_turn cs us c.loop-i.yielded c.into_iter-i-iterator.result c.loop-i.i-iterator c.next.new.self (search rules) (search rules) (search rules) c.loop-i.yielded_by c.next.result (c.in-Some.i, (c.in-Some.code, c.in-Some.unknown)) c.in-Some.is c.next.ensures.steps in (
      simp length-set c.loop-i.invariant.0,
      λ k h. shown_next p marks cs us fit c.loop-i.shown c.in-Some.i (length c.loop-i.yielded) c.shown_code.result c.in-Some.code.now c.in-Some.unknown.now
          c.loop-i.invariant.0 turn.0 turn.1 (turn.3 0) (turn.4 0) c.shown_code.ensures c.loop-i.invariant.1 k (simp length-append at h),
    )

pub returns : goal.returns
returns g c =
    let p = g.C.Chooser.pick c.args.self.now.below in
    let marks = c.args.self.now.marks in
    let cs = c.args.codes.now in
    let us = c.args.unknowns.now in
    let fit = fit_by_test cs us c.fits.result c.fits.ensures c.if-not-fits.false in
    let all = counted_end cs us c.loop-i.yielded c.into_iter-i-iterator.result c.loop-i.i-iterator c.next.new.self (search rules) (search rules) (search rules) c.loop-i.yielded_by c.next.result c.in-None.is c.next.ensures.steps in
    let whole = shown_whole p marks cs us fit c.loop-i.shown _ (length c.loop-i.yielded) c.loop-i.invariant.0 (omega arith) (omega (arith, fit.0)) c.loop-i.invariant.1 in
    let found = kept p marks cs us fit _ c.choose.result c.or_else.result whole c.choose.ensures (cases_map c.choose.result (λ h. search rules) (λ i h. h) c.or_else.ensures) in
    record { picked = found; in_words = said cs us (Spares marks cs us) found (keep_free_in_words p marks (g.met.C.Chooser.lawful c.args.self.now.below) cs us) }
