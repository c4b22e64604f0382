-- A write that chooses no setting not modelled keeps the front in range, from any that is, reached or not, and hands to the receivers what is
-- in range: register by register, each by its own law. Assumes nothing.
use Prim.Native.Nat.{ℕ, ◌/◌, ◌%◌}
use mathlib.Core.Path.{◌≡◌, refl}
use mathlib.Core.Bool.{true, false}
use native.Mathlib.Omega.{arith}
use borrow.Author.Tests.{eqb-true}
use lib.Dec.{eqb}
use Rattle.format.proofs.Laws.Pick.{pick_all, pick_known}
use Rattle.timer.proofs.Laws.Ranges.{mode_changed_kept}
use Rattle.outputs.specs.declared.outputs.Outputs.{Outputs}
use Rattle.outputs.specs.Outputs.{bits_set, bits_reset, outputs_chosen, opcr_not_modelled}
use Rattle.front_side.specs.declared.side.Side.{Side}
use Rattle.front_side.specs.Side.{mode_not_modelled}
use Rattle.front.specs.declared.front.Front.{Front}
use Rattle.front.specs.Front.{with_registers}
use Rattle.front_writes.specs.Writes.{side_written, acr_written, outputs_written, shared_written, register_written}
use Rattle.front_commands.proofs.Laws.Ranges.{commanded_within, command_in_range}
use Rattle.front.proofs.Laws.Ranges.{FrontWithin, HandedWithin, SideHandedWithin, sides_within, ports_within, nothing_within, handed_a_within, handed_b_within}
use Rattle.front_side.proofs.Laws.Ranges.{SideWithin, csr_written_within, set_changed_within, buffer_written_within}
use Rattle.front_modes.proofs.Laws.Ranges.{mode_set_within}

-- what a write of these registers must not choose
pub record Modelled (f : Front) (n byte : ℕ) : Type 0 where
  pub a : n ≡ 0 → mode_not_modelled f.a byte ≡ false
  pub b : n ≡ 8 → mode_not_modelled f.b byte ≡ false
  pub opcr : n ≡ 13 → opcr_not_modelled byte ≡ false

-- ---- a channel's registers 0 to 3 ----

side_written_within : (s : Side) (n byte : ℕ) → (n ≡ 0 → mode_not_modelled s byte ≡ false) → SideWithin s → SideHandedWithin (side_written s n byte)
unfolding side_written
side_written_within s n byte m h =
    pick_known SideHandedWithin (eqb n 0) _ _
    (λ (e : eqb n 0 ≡ true).
    let w = mode_set_within s byte (m (eqb-true n 0 e)) h in
    record { side = w.side; feed = w.feed })
    (pick_all SideHandedWithin (eqb n 1) _ _ (record { side = csr_written_within s byte h; feed = refl })
    (pick_all SideHandedWithin (eqb n 2) _ _ (record { side = commanded_within s byte h; feed = command_in_range s byte })
    (record { side = buffer_written_within s byte h; feed = refl })))

-- ---- the registers that both channels share ----

registers_within : (f : Front) (acr imr ivr : ℕ) → FrontWithin f → FrontWithin (with_registers f acr imr ivr)
registers_within f acr imr ivr h = record { a = h.a; b = h.b; timer = h.timer; changes = h.changes; opcr = h.opcr }

outputs_within : (f : Front) (o : Outputs) → FrontWithin f → opcr_not_modelled o.opcr ≡ false → FrontWithin (outputs_written f o)
outputs_within f o h e = ports_within f f.inputs o h h.changes e

acr_written_within : (f : Front) (byte : ℕ) → FrontWithin f → FrontWithin (acr_written f byte)
unfolding acr_written
acr_written_within f byte h =
    registers_within _ byte f.imr f.ivr
    (sides_within f _ _ _ h (set_changed_within f.a f.acr byte h.a) (set_changed_within f.b f.acr byte h.b)
    (mode_changed_kept f.acr byte f.timer h.timer))

shared_written_within : (f : Front) (n byte : ℕ) → (n ≡ 13 → opcr_not_modelled byte ≡ false) → FrontWithin f → FrontWithin (shared_written f n byte)
unfolding shared_written
shared_written_within f n byte m h =
    pick_all FrontWithin (eqb n 4) _ _ (acr_written_within f byte h)
    (pick_all FrontWithin (eqb n 5) _ _ (registers_within f _ byte _ h)
    (pick_all FrontWithin (eqb n 6) _ _ (sides_within f _ _ _ h h.a h.b h.timer)
    (pick_all FrontWithin (eqb n 7) _ _ (sides_within f _ _ _ h h.a h.b h.timer)
    (pick_all FrontWithin (eqb n 12) _ _ (registers_within f _ _ byte h)
    (pick_known FrontWithin (eqb n 13) _ _ (λ (e : eqb n 13 ≡ true). outputs_within f (outputs_chosen f.outputs byte) h (m (eqb-true n 13 e)))
    (pick_all FrontWithin (eqb n 14) _ _ (outputs_within f (bits_set f.outputs byte) h h.opcr)
    (pick_all FrontWithin (eqb n 15) _ _ (outputs_within f (bits_reset f.outputs byte) h h.opcr)
    h)))))))

-- ---- any register ----

pub register_written_within : (f : Front) (n byte : ℕ) → Modelled f n byte → FrontWithin f → HandedWithin (register_written f n byte)
unfolding register_written
register_written_within f n byte m h =
    pick_known HandedWithin (eqb (n / 4) 0) _ _
    (λ (e : eqb (n / 4) 0 ≡ true).
    let q = eqb-true (n / 4) 0 e in
    handed_a_within f _ h (side_written_within f.a (n % 4) byte (λ (r : n % 4 ≡ 0). m.a (omega arith)) h.a))
    (pick_known HandedWithin (eqb (n / 4) 2) _ _
    (λ (e : eqb (n / 4) 2 ≡ true).
    let q = eqb-true (n / 4) 2 e in
    handed_b_within f _ h (side_written_within f.b (n % 4) byte (λ (r : n % 4 ≡ 0). m.b (omega arith)) h.b))
    (nothing_within _ (shared_written_within f n byte m.opcr h)))
