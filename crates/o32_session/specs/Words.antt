-- The words after the emulator's own name, as they are read and defined below, passed on for those who read on here.
pub use Rattle.session_words.specs.Words.{texts, has_nul, IsPlain, is_plain_number, greatest_budget, up_to_greatest, budget_of, is_setting, is_file_name, Role, ImageOption, ScheduleOption, BudgetOption, TraceOption, NativeOption, JournalOption, SaveOption, EnvOption, ProgramName, NoOption, is_program, role_of, Options, no_options, Line, default_budget, Reading, Asks, WrongAt, read_guest, line_of, read_last, with_budget, read_pair, read_options, read_line, word_at, later_of_equal, first_of, equal_to_written, equal_to_native, equal_to_journal, equal_to_saved, equal_name, with_names, compare_names, read_words, Command, RunCommand, ReplayCommand, SoakCommand, command_of, ReplayLine, ReplayReading, AsksReplay, WrongReplayAt, read_replay, SoakReading, AsksSoak, WrongSoakAt, read_soak}
