-- `put` meets its contract: each count fills the definition's place. Assumes nothing.
use Prim.Native.Nat.{min}
use mathlib.Core.Path.{◌≡◌}
use native.Mathlib.Omega.{arith}
use Rattle.format.proofs.Laws.{steps}
use Rattle.queue.specs.Queue.{put_of}
use Rattle.queue.proofs.queue.put.Goals as goal
use Rattle.queue.proofs.queue.put.Goals.{in-0, in-1, in-2, in_default}

pub returns : goal.returns
unfolding put_of
returns c =
    elim c.match-queue.branch [
      | in-0 w ↦ rw (w.q-is, c.min.ensures, w.in-0.is) (search steps)
      | in-1 w ↦ rw (w.q-is, c.min.ensures, w.in-1.is) (search steps)
      | in-2 w ↦ rw (w.q-is, c.min.ensures, w.in-2.is) (search steps)
      | in_default w ↦
          let full : min c.args.queue.count 3 ≡ 3 = omega arith in
          rw (w.q-is, c.min.ensures, full) (search steps)
    ]
