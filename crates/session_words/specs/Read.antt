-- How what was read stands for what the words ask for. This project's own.
use Rattle.std.specs.Prelude.{ℕ, ◌≡◌, ◌≤◌, ⊤, Result, Ok, Err}
use Rattle.session_words.specs.Words as Words
use Rattle.session_words.specs.Words.{Line, Reading, WrongAt, Command, RunCommand, ReplayCommand, SoakCommand, ReplayReading, AsksReplay, WrongReplayAt, SoakReading, AsksSoak, WrongSoakAt, greatest_count, texts}
use Rattle.session_words.specs.declared.words.Command as code
use Rattle.session_words.specs.declared.words.Command.TheVariants as commands
use Rattle.session_words.specs.declared.words.ReplayLine.{ReplayLine}
use Rattle.session_words.specs.declared.words.RunLine.{RunLine}
use Rattle.session_words.specs.declared.words.WordsError.{WordsError}
use Rattle.session_words.specs.declared.words.WordsError.TheVariants.{Usage, NoMemory}

-- The command

abbrev pub command_seen : code.Command → Command
command_seen commands.Run = RunCommand
command_seen commands.Replay = ReplayCommand
command_seen commands.Soak = SoakCommand

-- A run

-- the line that the words ask for
abbrev pub line_seen : RunLine → Line
line_seen line = record {
  budget = line.budget;
  environment = texts line.environment.items;
  program = line.program;
  image = line.image;
  schedule = line.schedule;
  trace = line.trace;
  native = line.native;
  journal = line.journal;
  save = line.save;
}

-- why no line was given: the reading is wrong at that word; want of memory is free
abbrev pub IsReason : Reading → WordsError → Type 0
IsReason reading (Usage word) = reading ≡ WrongAt word
IsReason reading NoMemory = ⊤

-- A replay

abbrev pub replay_line_seen : ReplayLine → Words.ReplayLine
replay_line_seen line = record { program = line.program.now; journal = line.journal.now }

abbrev pub reading_seen : Result ReplayLine ℕ → ReplayReading
reading_seen (Ok line) = AsksReplay (replay_line_seen line)
reading_seen (Err word) = WrongReplayAt word

-- A soak

abbrev pub soak_reading_seen : Result ℕ ℕ → SoakReading
soak_reading_seen (Ok count) = AsksSoak count
soak_reading_seen (Err word) = WrongSoakAt word

-- a count of numbers that can be asked for
abbrev pub IsCount : ℕ → Type 0
IsCount count = (1 ≤ count) × (count ≤ greatest_count)
