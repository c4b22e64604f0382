-- One name for what a proof by computing unfolds: what a sampler makes of a line. It says nothing by itself.
use mathlib.Core.Bool.{Bool, true}
use Rattle.frame.proofs.Computing as Frames
use Rattle.sampler_state.specs.Assembly.{data_width_of, samples_of, with_sample, parity_wrong_of, character_of}
use Rattle.sampler_state.specs.State.{gap_of, after_stop}
use Rattle.sampler_hunting.specs.Hunting.{low_at, hunted, looked_again, followed, waited}
use Rattle.sampler.specs.Sampler.{finished, sampled, assembled, sample_of}
use Rattle.sampler.specs.Lines.{hears}

unfoldable pub computing : Bool
unfolding Frames.computing data_width_of samples_of with_sample parity_wrong_of character_of gap_of after_stop low_at hunted
    looked_again followed waited finished sampled assembled sample_of hears
computing = true
