-- What the refusal of a replay says.
use Rattle.std.specs.Prelude.{ℕ, List, codes}
use Rattle.replay.specs.declared.fault.ReplayFault.{ReplayFault}
use Rattle.replay.specs.declared.fault.ReplayFault.TheVariants.{OtherAnswers}

-- the refusal in plain words
abbrev pub replay_text : ReplayFault → List ℕ
replay_text OtherAnswers = codes "not as many answers as calls"
