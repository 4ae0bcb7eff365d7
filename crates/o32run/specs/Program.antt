-- How the program ends. This project's own.
use Rattle.std.specs.Prelude.{ℕ, ◌≡◌, List, Option}
use Rattle.session_files.specs.Answers.{status_of}
use Rattle.session_files.specs.Faults.{TellsFaults}
use Rattle.o32_session.specs.Soaked.{AnswersSession}
use Rattle.o32_session.specs.Session.{Emulated}
use Rattle.session_files.specs.Seen.{Seen}
use Rattle.session_files.specs.declared.end.End.{End}

-- A session of these words was carried out, with what its answer says of the input, outputs and files and of the counts of faults, and the
-- status is that of its end.
pub record EndsAs (words : List (List ℕ)) (old new : Seen) (status : ℕ) : Type 0 where
  pub turns : ℕ
  pub end : End
  pub host : Option Emulated
  pub answered : AnswersSession words old new turns end host
  pub faults : TellsFaults end old new
  pub ended : status ≡ status_of end
