use Rattle.std.proofs.Common.{◌+◌, ◌*◌, ◌<◌, ◌≤◌, length, vec_items, arith, rules}
use Rattle.sets.proofs.Borrowed.{front_lent, front_back}
use Rattle.sets.proofs.Judged.{taken_state}
use Rattle.sets.proofs.set.offer.Set+T+Open.take.Goals as goal

pub returns-clause-state : goal.returns-clause-state
returns-clause-state g c =
    let s = c.args.self.now in
    let n = s.unknowns * (s.unknowns + 2) in
    let all = c.as_mut_slice-all in
    let ys = c.take_column.new.slots in
    let room : n ≤ length all.result.now = omega (arith, s.room, all.ensures.len) in
    let lent = front_lent s.memory all.result.now ys n all.ensures.value all.ensures.len c.take_column.auto.slots room in
    let back = front_back s.memory all.result.now ys n all.ensures.value all.ensures.len c.take_column.auto.slots room in
    let enough : s.held < length s.pivots = search rules in
    let told = c.take_column.ensures in
    taken_state g.T.Arithmetic.field.ops g.T.Arithmetic.value s.unknowns s.held s.pivots s.few (vec_items s.memory) _ ys _ lent back c.args.q _ (omega (arith, c.requires)) enough told.held told.next told.targets
