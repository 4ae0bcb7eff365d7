-- What the pointer of a request is for (ioctl_tty(2); FIONREAD, FIONBIO, FIOCLEX and FIONCLEX take an int or nothing).
use Rattle.kernel_core.specs.declared.request.Request.{Request}
use Rattle.kernel_core.specs.declared.request.Request.TheVariants as requests
use Rattle.bridge_io.specs.declared.structures.Structure.TheVariants.{Int, Window, Settings}
use Rattle.bridge_io.specs.declared.terminal.Purpose.{Purpose}
use Rattle.bridge_io.specs.declared.terminal.Purpose.TheVariants.{Stores, Loads, Unused}

abbrev pub purpose_of : Request → Purpose
purpose_of requests.Tcgets = Stores Settings
purpose_of requests.Tcsets = Loads Settings
purpose_of requests.Tcsetsw = Loads Settings
purpose_of requests.Tcsetsf = Loads Settings
purpose_of requests.Tiocgwinsz = Stores Window
purpose_of requests.Fionread = Stores Int
purpose_of requests.Fionbio = Loads Int
purpose_of requests.Fioclex = Unused
purpose_of requests.Fionclex = Unused
