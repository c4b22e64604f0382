-- The edges of each pin, written out: what a rise and a fall are of the eight pins, whatever the other pins do meanwhile. Computed; the statement takes
-- the tests that it speaks of, so that a level taken for an edge is refuted by it. Assumes nothing.
use Prim.Native.Nat.{ℕ, ◌+◌}
use mathlib.Core.Path.{◌≡◌, refl}
use mathlib.Core.Bool.{Bool, true, false}
use mathlib.Core.List.{List, [], ◌∷◌}
use lib.ListN.{replicate}
use Rattle.format.specs.Pick.{pick}
use Rattle.byte_bits.specs.Bytes.{has_bit}
use Rattle.byte_bits.proofs.Laws.{powers, lacks}
use Rattle.inputs.specs.Inputs.{rises_of, falls_of}

-- the k-th pin, where the levels before and after are the k-th of these
abbrev pub each_pin : (ℕ → ℕ → ℕ → Bool) → ℕ → List ℕ → List ℕ → List Bool
each_pin test k [] after = []
each_pin test k (x ∷ xs) [] = []
each_pin test k (x ∷ xs) (y ∷ ys) = test x y k ∷ each_pin test (1 + k) xs ys

abbrev pub all : ℕ → List ℕ
all levels = replicate 8 levels

-- "receiver on a rising edge .., transmitter on a falling edge": a pin alone low is one of `lacks`, and alone high one of `powers`
pub record Edges (rises falls : ℕ → ℕ → ℕ → Bool) : Type 0 where
  -- from low to high, alone and with all others moving the other way
  pub up : (each_pin rises 0 lacks (all 255) ≡ replicate 8 true) × (each_pin rises 0 lacks powers ≡ replicate 8 true)
  pub up_falls : (each_pin falls 0 lacks (all 255) ≡ replicate 8 false) × (each_pin falls 0 lacks powers ≡ replicate 8 false)
  -- from high to low
  pub down : (each_pin falls 0 powers (all 0) ≡ replicate 8 true) × (each_pin falls 0 powers lacks ≡ replicate 8 true)
  pub down_rises : (each_pin rises 0 powers (all 0) ≡ replicate 8 false) × (each_pin rises 0 powers lacks ≡ replicate 8 false)
  -- it stays high, or low, and the others move
  pub high : (each_pin rises 0 powers (all 255) ≡ replicate 8 false) × (each_pin falls 0 (all 255) powers ≡ replicate 8 false)
  pub low : (each_pin rises 0 (all 0) lacks ≡ replicate 8 false) × (each_pin falls 0 lacks (all 0) ≡ replicate 8 false)
  -- no pin moves
  pub still : (each_pin rises 0 (all 255) (all 255) ≡ replicate 8 false) × (each_pin falls 0 (all 0) (all 0) ≡ replicate 8 false)

pub edges : Edges rises_of falls_of
unfolding has_bit pick
edges =
    record {
      up = (refl, refl);
      up_falls = (refl, refl);
      down = (refl, refl);
      down_rises = (refl, refl);
      high = (refl, refl);
      low = (refl, refl);
      still = (refl, refl);
    }
