-- `next` meets what is said of the iterator: a wire is taken off the text, and is one less to come. Assumes nothing.
use Prim.Native.Nat.{suc, ◌-◌, ◌<◌}
use mathlib.Core.Path.{◌≡◌, sym, ◌∙◌, ap}
use mathlib.Core.List.{◌∷◌}
use native.Mathlib.Omega.{arith}
use lib.ListN.{length, drop}
use Rattle.std.proofs.Common.{rules}
use Rattle.vcd_read.specs.Wires.{told, wires_of, wires_end, left, beyond}
use Rattle.vcd_read.proofs.Laws.Wires.{wires_none, wires_zero, wires_next, beyond_next}
use Rattle.vcd_read.proofs.wires.WiresIterator.next.Goals as goal

pub returns-then-self-eq0-clause-steps : goal.returns-then-self-eq0-clause-steps
unfolding left beyond
returns-then-self-eq0-clause-steps c =
    let z = wires_zero c.args.self.now.rest.now in
    rw c.if-self-eq0.true (z.0, z.0, rw z.1)

pub returns-in_err-wire-clause-steps : goal.returns-in_err-wire-clause-steps
unfolding left beyond
returns-in_err-wire-clause-steps c =
    let z = wires_none c.args.self.now.most c.args.self.now.rest.now c.in_err-wire.ensures in
    rw c.from_residual.ensures (z.0, z.0, rw z.1)

pub returns-clause-steps : goal.returns-clause-steps
unfolding left beyond
returns-clause-steps c =
    let old = c.args.self.now in
    let one : old.most ≡ suc (old.most - 1) = omega arith in
    let wire = c.in_ok-wire.ensures in (
      ap (λ n. wires_of n old.rest.now) one ∙ (wires_next (old.most - 1) old.rest.now wire.0).0 ∙ rw (wire.1, wire.2),
      rw wire.2 (beyond_next (old.most - 1) old.rest.now wire.0 ∙ ap (λ n. drop (wires_end n old.rest.now) old.rest.now) (sym one)),
    )

pub returns-clause-goes : goal.returns-clause-goes
unfolding left
returns-clause-goes c =
    let old = c.args.self.now in
    let one : old.most ≡ suc (old.most - 1) = omega arith in
    let wire = c.in_ok-wire.ensures in
    let step : left old ≡ told c.in_ok-wire.wire ∷ left (record { most = old.most - 1; rest = c.in_ok-wire.rest })
    = ap (λ n. wires_of n old.rest.now) one ∙ (wires_next (old.most - 1) old.rest.now wire.0).0 ∙ rw (wire.1, wire.2) in
    let less : length (left (record { most = old.most - 1; rest = c.in_ok-wire.rest })) < length (left old) = omega (arith, ap length step) in search rules
