-- `put_bytes` meets its contract: byte by byte, each at its own place. Assumes nothing.
use lib.ListN.{take}
use Rattle.text.specs.Puts.{Writes}
use Rattle.text.proofs.putting.Page.put_bytes.Given as goal

abbrev pub invariant-loop-byte : goal.invariant-loop-byte
invariant-loop-byte l = Writes (take l.byte-index l.bytes) l.initial.self l.self
