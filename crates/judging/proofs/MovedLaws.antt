-- The moves of a figure are told apart by what they say.
-- Assumes nothing.
use mathlib.Core.Path.{ap}
use Rattle.std.specs.Prelude.{Ok, Err}
use Rattle.calls.specs.Laws.{ToldApart}
use Rattle.calls.proofs.SaidLaws.{numbers_apart}
use Rattle.judging.specs.Figures.{moved_said}

pub moves-apart : ToldApart moved_said
moves-apart (Ok new) (Ok other) same = ap Ok (cc)
moves-apart (Ok new) (Err other) same = cc
moves-apart (Err refusal) (Ok other) same = cc
moves-apart (Err refusal) (Err other) same = ap Err (numbers_apart refusal other (cc))
