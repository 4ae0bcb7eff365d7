-- Which end of a session the values of its steps stand for.
use Rattle.outside.specs.declared.errors.DevError.{DevError}
use Rattle.outside.specs.declared.errors.DevError.TheVariants as device
use Rattle.session_files.specs.declared.save.SaveError.{SaveError}
use Rattle.session_files.specs.declared.save.SaveError.TheVariants as save
use Rattle.kernel_core.specs.declared.core_error.Stop.{Stop}
use Rattle.kernel_core.specs.declared.core_error.Stop.TheVariants as stops
use Rattle.session_files.specs.declared.end.End.{End}
use Rattle.session_files.specs.declared.end.End.TheVariants as ends
use Rattle.kernel_core.specs.declared.finish.Finish.{Finish}
use Rattle.kernel_core.specs.declared.finish.Finish.TheVariants.{Exited, Killed, Budget, Blocked}

-- the end of a run that is over so
abbrev pub end_of : Finish → End
end_of (Exited status) = ends.Exited status
end_of (Killed signal) = ends.Killed signal
end_of Budget = ends.Budget
end_of Blocked = ends.Blocked

-- the end of a session whose run stopped early
abbrev pub end_of_stop : Stop → End
end_of_stop stops.WriteFault = ends.WriteFault
end_of_stop stops.ReadFault = ends.ReadFault
end_of_stop stops.NoMemory = ends.NoMemory

-- why a save stopped at the store
abbrev pub of_device : DevError → SaveError
of_device device.Failed = save.Failed
of_device device.NoMemory = save.NoMemory

-- the end of a session whose final tree was not saved
abbrev pub end_of_error : SaveError → End
end_of_error save.NoImage = ends.NoMemory
end_of_error save.Failed = ends.WriteFault
end_of_error save.NoMemory = ends.NoMemory
