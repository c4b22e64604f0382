-- The front, and what an event makes of it. No receiver stands in it. Assumes nothing.
use Rattle.std.specs.Prelude.{ℕ}
use Rattle.inputs.specs.declared.inputs.Inputs.{Inputs}
use Rattle.outputs.specs.declared.outputs.Outputs.{Outputs}
use Rattle.outputs.specs.Outputs.{fresh_outputs}
use Rattle.feed.specs.declared.feed.Feed.{Feed}
use Rattle.feed.specs.declared.feed.Feed.TheVariants.{Nothing}
use Rattle.front_side.specs.declared.side.Side.{Side}
use Rattle.front_side.specs.Side.{fresh_side}
use Rattle.timer_state.specs.declared.counting.Timer.{Timer}
use Rattle.timer_state.specs.Counting.{fresh_timer}
use Rattle.front.specs.declared.front.Front.{Front}
use Rattle.front.specs.declared.front.Handed.{Handed}
use Rattle.front.specs.declared.front.SideHanded.{SideHanded}

-- "Chip reset: IVR 15, every other register, preload, count, phase, flag, .. and output bit 0, .. Pin levels stay.":
-- the front after one at these levels
unfoldable pub front_at : ℕ → Front
front_at levels =
    record {
      a = fresh_side;
      b = fresh_side;
      timer = fresh_timer;
      inputs = record { levels = levels; changes = 0 };
      outputs = fresh_outputs;
      acr = 0;
      imr = 0;
      ivr = 15;
    }

-- ---- a front with another part ----

-- other sides and another counter/timer
abbrev pub with_sides : Front → Side → Side → Timer → Front
with_sides f a b t =
    record {
      a = a;
      b = b;
      timer = t;
      inputs = f.inputs;
      outputs = f.outputs;
      acr = f.acr;
      imr = f.imr;
      ivr = f.ivr;
    }

-- another counter/timer
abbrev pub with_timer : Front → Timer → Front
with_timer f t = with_sides f f.a f.b t

-- other pins
abbrev pub with_ports : Front → Inputs → Outputs → Front
with_ports f i o =
    record { a = f.a; b = f.b; timer = f.timer; inputs = i; outputs = o; acr = f.acr; imr = f.imr; ivr = f.ivr }

-- other registers that both channels share
abbrev pub with_registers : Front → ℕ → ℕ → ℕ → Front
with_registers f acr imr ivr =
    record {
      a = f.a;
      b = f.b;
      timer = f.timer;
      inputs = f.inputs;
      outputs = f.outputs;
      acr = acr;
      imr = imr;
      ivr = ivr;
    }

-- ---- what an access hands to the receivers ----

abbrev pub side_handed : Side → Feed → SideHanded
side_handed s feed = record { side = s; feed = feed }

abbrev pub handed_nothing : Front → Handed
handed_nothing f = record { front = f; a = Nothing; b = Nothing }

abbrev pub handed_a : Front → SideHanded → Handed
handed_a f x = record { front = with_sides f x.side f.b f.timer; a = x.feed; b = Nothing }

abbrev pub handed_b : Front → SideHanded → Handed
handed_b f x = record { front = with_sides f f.a x.side f.timer; a = Nothing; b = x.feed }
