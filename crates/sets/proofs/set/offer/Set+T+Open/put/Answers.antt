use Rattle.std.proofs.Common.{◌+◌, ◌*◌, ◌≤◌, length, vec_items, arith}
use Rattle.sets.proofs.Borrowed.{front_lent, front_back}
use Rattle.sets.proofs.Judged.{put_state, put_next}
use Rattle.sets.proofs.set.offer.Set+T+Open.put.Goals as goal

pub returns-clause-state : goal.returns-clause-state
returns-clause-state g c =
    let F = g.T.Arithmetic.field.ops in
    let s = c.args.self.now in
    let n = s.unknowns * (s.unknowns + 2) in
    let all = c.as_mut_slice-all in
    let ys = c.put_column.new.slots in
    let room : n ≤ length all.result.now = omega (arith, s.room, all.ensures.len) in
    let lent = front_lent s.memory all.result.now ys n all.ensures.value all.ensures.len c.put_column.auto.slots room in
    let back = front_back s.memory all.result.now ys n all.ensures.value all.ensures.len c.put_column.auto.slots room in
    put_state F g.T.Arithmetic.value s.unknowns s.held s.pivots s.few (vec_items s.memory) _ ys _ lent back _ c.put_column.ensures

pub returns-clause-next : goal.returns-clause-next
returns-clause-next g c =
    let F = g.T.Arithmetic.field.ops in
    let s = c.args.self.now in
    let n = s.unknowns * (s.unknowns + 2) in
    let all = c.as_mut_slice-all in
    let ys = c.put_column.new.slots in
    let room : n ≤ length all.result.now = omega (arith, s.room, all.ensures.len) in
    let lent = front_lent s.memory all.result.now ys n all.ensures.value all.ensures.len c.put_column.auto.slots room in
    let back = front_back s.memory all.result.now ys n all.ensures.value all.ensures.len c.put_column.auto.slots room in
    put_next F g.T.Arithmetic.value s.unknowns s.held s.pivots s.few (vec_items s.memory) _ ys _ lent back _ c.put_column.ensures
