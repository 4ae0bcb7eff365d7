-- The texts of uname(2), which both worlds have at the same places.
use Rattle.std.specs.Prelude.{ℕ, List, replicate}
use Rattle.layouts.specs.Dirents.{placed}
use Rattle.layouts.specs.declared.utsname.UtsnameText.{UtsnameText}
use Rattle.layouts.specs.declared.utsname.UtsnameText.TheVariants.{Sysname, Nodename, Release, Version, Machine, Domainname}

-- where a text begins, in bytes (struct new_utsname of Linux include/uapi/linux/utsname.h)
abbrev pub text_offset : UtsnameText → ℕ
text_offset Sysname = 0
text_offset Nodename = 65
text_offset Release = 130
text_offset Version = 195
text_offset Machine = 260
text_offset Domainname = 325

-- a text with NULs up to the end of its place
abbrev pub padded : List ℕ → List ℕ
padded text = placed 0 text (replicate 65 0)

-- the structure with a text in its place
abbrev pub with_text : UtsnameText → List ℕ → List ℕ → List ℕ
with_text text name bytes = placed (text_offset text) (padded name) bytes
