-- A channel's mode (order 2): what the events tell of it is what its side holds; which write changes it, and that no other event does. Assumes
-- nothing.
use Prim.Native.Nat.{ℕ, zero, suc, ◌/◌, ◌%◌, ◌<◌}
use mathlib.Core.Path.{◌≡◌, refl, sym, ap, ◌∙◌}
use mathlib.Core.Bool.{Bool, true, false, not, ◌&&◌, ◌||◌, true≢false, and-eq-true_iff}
use mathlib.Core.List.{List, [], ◌∷◌, ◌++◌, append_assoc, append-nil}
use native.Mathlib.Omega.{arith}
use lib.Dec.{eqb}
use borrow.Author.Tests.{eqb-true, not-true}
use Rattle.format.specs.Format.{mr1_not_modelled, mr2_not_modelled}
use Rattle.format.specs.Pick.{pick}
use Rattle.format.proofs.Laws.Pick.{pick_all, pick_known}
use Rattle.front_side.specs.declared.side.Side.{Side}
use Rattle.front_side.specs.Side.{mode_not_modelled}
use Rattle.front_modes.specs.Modes.{echo_mode, changes_mode}
use Rattle.events.specs.declared.events.Event.{Event}
use Rattle.events.specs.declared.events.Event.TheVariants.{ChipReset, Read, Write, Acknowledge, Pins, Tick}
use Rattle.demands.specs.Chip.{Channel, register_of, and_then}
use Rattle.demands.specs.Told.{Programmed, commands, unprogrammed, mode_then, programmed_then, programmed, mode_bits, in_echo, mode_changes}
use Rattle.demands.specs.Sending.{keeps_sending, keeps_from}
use Rattle.demands.proofs.Laws.Told.{over_then, programmed_of}

-- ---- the echo modes ----

odd_mode : (m : ℕ) → m < 4 → (eqb m 1 || eqb m 3) ≡ eqb (m % 2) 1
odd_mode zero l = refl
odd_mode (suc zero) l = refl
odd_mode (suc (suc zero)) l = refl
odd_mode (suc (suc (suc zero))) l = refl
odd_mode (suc (suc (suc (suc m)))) l = absurd (omega arith)

pub echo_told : (s : Side) → in_echo (programmed_of s) ≡ echo_mode s.mr2
echo_told s = odd_mode (s.mr2 / 64 % 4) (omega arith)

-- ---- which write changes the mode ----

-- at the channel's mode registers: a setting that is accepted, and that the side takes for a change
pub changes_told : {X : Type 0} (s : Side) (byte : ℕ) (x y : X)
    → pick (mode_not_modelled s byte) y (pick (changes_mode s byte) x y)
    ≡ pick (s.moved && (not (mr2_not_modelled byte) && not (eqb (byte / 64 % 4) (mode_bits (programmed_of s))))) x y
unfolding mode_not_modelled pick
changes_told {X = X} s byte x y = go s.moved refl
  where
    go : (t : Bool) → s.moved ≡ t
        → pick (mode_not_modelled s byte) y (pick (changes_mode s byte) x y)
        ≡ pick (s.moved && (not (mr2_not_modelled byte) && not (eqb (byte / 64 % 4) (mode_bits (programmed_of s))))) x y
    go true e = rw (e, mode_not_modelled) (refused (mr2_not_modelled byte))
      where
        refused : (t : Bool)
            → pick t y (pick (not (eqb (byte / 64 % 4) (s.mr2 / 64 % 4))) x y) ≡ pick (not t && not (eqb (byte / 64 % 4) (s.mr2 / 64 % 4))) x y
        refused true = refl
        refused false = refl
    go false e = rw (e, mode_not_modelled) (pick_all (λ (z : X). z ≡ y) (mr1_not_modelled byte) y y refl refl)

-- ---- the mode stays ----

written_kept : (p : Programmed) (byte : ℕ) → (p.moved && (not (mr2_not_modelled byte) && not (eqb (byte / 64 % 4) (mode_bits p)))) ≡ false
    → mode_bits (mode_then p byte) ≡ mode_bits p
unfolding pick
written_kept p byte h = go p.moved (mr2_not_modelled byte) (eqb (byte / 64 % 4) (mode_bits p)) refl h
  where
    go : (m r x : Bool) → eqb (byte / 64 % 4) (mode_bits p) ≡ x → (m && (not r && not x)) ≡ false
        → mode_bits
        (pick m
        (pick r p (record { mr1 = p.mr1; mr2 = byte; moved = true; csr = p.csr; receives = p.receives; transmits = p.transmits }))
        (pick (mr1_not_modelled byte) p
        (record { mr1 = byte; mr2 = p.mr2; moved = true; csr = p.csr; receives = p.receives; transmits = p.transmits })))
        ≡ mode_bits p
    go true true x e f = refl
    go true false true e f = eqb-true (byte / 64 % 4) (mode_bits p) e
    go true false false e f = absurd (true≢false f)
    go false r x e f = pick_all (λ (q : Programmed). mode_bits q ≡ mode_bits p) (mr1_not_modelled byte) _ _ refl refl

mode_kept : (ch : Channel) (es : List Event) (e : Event) → keeps_sending ch es e ≡ true
    → mode_bits (programmed_then ch (programmed ch es) e) ≡ mode_bits (programmed ch es)
unfolding programmed_then
mode_kept ch es ChipReset h = absurd (true≢false (sym h))
mode_kept ch es (Read n) h = pick_all (λ (x : Programmed). mode_bits x ≡ mode_bits (programmed ch es)) _ _ _ refl refl
mode_kept ch es (Write n byte) h =
    pick_known Same (eqb n (register_of ch 0)) _ _ (λ k. written_kept p byte (rw k at unchanged))
    (pick_all Same _ _ _ refl (pick_all Same _ _ _ (pick_all Same _ _ _ refl refl) refl))
  where
    p : Programmed
    p = programmed ch es

    Same : Programmed → Type 0
    Same x = mode_bits x ≡ mode_bits p

    unchanged : mode_changes ch p n byte ≡ false
    unchanged =
        not-true (mode_changes ch p n byte)
        ((and-eq-true_iff (not (commands ch n byte && eqb (byte / 16 % 8) 3)) (not (mode_changes ch p n byte))).0 h).1
mode_kept ch es Acknowledge h = refl
mode_kept ch es (Pins x) h = refl
mode_kept ch es Tick h = refl

pub mode_stays : (ch : Channel) (es : List Event) (e : Event) → keeps_sending ch es e ≡ true
    → mode_bits (programmed ch (and_then es e)) ≡ mode_bits (programmed ch es)
mode_stays ch es e h = ap mode_bits (over_then (programmed_then ch) unprogrammed es e) ∙ mode_kept ch es e h

pub mode_from : (ch : Channel) (before es : List Event) → keeps_from ch before es ≡ true
    → mode_bits (programmed ch (before ++ es)) ≡ mode_bits (programmed ch before)
unfolding keeps_from
mode_from ch before [] h = ap (λ (xs : List Event). mode_bits (programmed ch xs)) (append-nil before)
mode_from ch before (e ∷ es) h =
    let both = (and-eq-true_iff (keeps_sending ch before e) _).0 h in
    ap (λ (xs : List Event). mode_bits (programmed ch xs)) (sym (append_assoc before (e ∷ []) es))
    ∙ mode_from ch (and_then before e) es both.1 ∙ mode_stays ch before e both.0
