-- `put_bytes` meets its contract: byte by byte, each at its own place. Assumes nothing.
use Prim.Native.Nat.{ℕ, ◌+◌, ◌<◌}
use mathlib.Core.Path.{◌≡◌, sym}
use mathlib.Core.List.{List, [], ◌∷◌, ◌++◌}
use native.Mathlib.Numerals.{add-one}
use native.Mathlib.Omega.{arith}
use lib.ListN.{length, take, get_or}
use lib.Seq.{take-suc}
use Rattle.text.proofs.Laws.Pages.{writes_then, writes_as}
use Rattle.text.proofs.putting.Page.put_bytes.Goals as goal

one_more : (l : List ℕ) (i : ℕ) → i < length l → take i l ++ get_or l i 0 ∷ [] ≡ take (i + 1) l
one_more l i h = rw add-one (sym (take-suc l i 0 h))

pub loop-byte-preserved : goal.loop-byte-preserved
loop-byte-preserved c =
    writes_as (one_more c.args.bytes.now c.loop-byte.byte-index (omega arith)) (writes_then c.loop-byte.invariant c.put.ensures)
