-- The bytes of a signal's frame and what a return reads there, over plain numbers. The layouts of
-- the frames are this project's own profile.
use Rattle.std.specs.Prelude.{◌≡◌, ℕ, ◌+◌, ◌-◌, ◌<◌, ◌≤◌, ◌^◌, ◌==◌, true, IsTrue, List, [], ◌∷◌, ◌++◌, map, take, drop, length, slice_index, bit_and, All, ℤ, pos, if◌then◌else◌}
use Rattle.layouts.specs.Number.{value_of, is_in_range, low_number}
use Rattle.layouts.specs.Shape.{Shape, record_bytes, record_values}
use Rattle.layouts.specs.O32.{stack, siginfo, siginfo_fault, sigcontext, frame, rt_frame_of}

-- a number of 32 bits
abbrev pub IsWord : ℕ → Type 0
IsWord number = number < 2 ^ 32

-- a number of 32 bits that may be below 0
abbrev pub IsSignedWord : ℤ → Type 0
IsSignedWord value = IsTrue (is_in_range true 4 value)

-- what a handler's return puts back into the processor: words
pub record Context : Type 0 where
  pub pc : ℕ
  pub registers : List ℕ
  pub hi : ℕ
  pub lo : ℕ

-- there are 32 registers, and words alone
pub record IsContext (context : Context) : Type 0 where
  pub count : length context.registers ≡ 32
  pub registers : All IsWord context.registers
  pub pc : IsWord context.pc
  pub hi : IsWord context.hi
  pub lo : IsWord context.lo

-- a mask is four words, signal 1 the lowest bit of the first
pub record IsMask (mask : List ℕ) : Type 0 where
  pub count : length mask ≡ 4
  pub words : All IsWord mask

-- the alternate stack as sigaltstack(2) shows it: words
pub record AlternateStack : Type 0 where
  pub sp : ℕ
  pub size : ℕ
  pub flags : ℕ

pub record IsAlternateStack (stack : AlternateStack) : Type 0 where
  pub sp : IsWord stack.sp
  pub size : IsWord stack.size
  pub flags : IsWord stack.flags

-- what a handler is told of its signal; the address is 0 in all but a fault
pub record Information : Type 0 where
  pub signo : ℕ
  pub code : ℤ
  pub errno : ℤ
  pub pid : ℕ
  pub uid : ℕ
  pub value : ℕ
  pub address : ℕ

pub record IsInformation (info : Information) : Type 0 where
  pub signo : info.signo ≤ 128
  pub code : IsSignedWord info.code
  pub errno : IsSignedWord info.errno
  pub pid : IsWord info.pid
  pub uid : IsWord info.uid
  pub value : IsWord info.value
  pub address : IsWord info.address

-- a word as a number of 8 bytes that carries its sign on
abbrev pub sign_extended : ℕ → ℤ
sign_extended number = value_of true 4 number

abbrev pub context_values : Context → List ℤ
context_values context =
    sign_extended context.pc ∷ map sign_extended context.registers ++ sign_extended context.hi ∷ sign_extended context.lo ∷ []

abbrev pub stack_values : AlternateStack → List ℤ
stack_values stack = pos stack.sp ∷ pos stack.size ∷ pos stack.flags ∷ []

-- a siginfo has the fields of a fault where the address is not 0, and else those of a sent signal
abbrev pub siginfo_of : Information → Shape
siginfo_of info = if info.address == 0 then siginfo else siginfo_fault

abbrev pub siginfo_values : Information → List ℤ
siginfo_values info =
    pos info.signo ∷ info.code ∷ info.errno
    ∷ (if info.address == 0 then pos info.pid ∷ pos info.uid ∷ pos info.value ∷ [] else pos info.address ∷ [])

abbrev pub siginfo_bytes : Information → List ℕ
siginfo_bytes info = record_bytes (siginfo_of info) (siginfo_values info)

-- the bytes of a frame
unfoldable pub frame_bytes : Context → List ℕ → List ℕ
frame_bytes context mask = record_bytes frame (context_values context ++ map pos mask)

unfoldable pub rt_frame_bytes : Information → AlternateStack → Context → List ℕ → List ℕ
rt_frame_bytes info stack context mask =
    record_bytes (rt_frame_of (siginfo_of info))
    (siginfo_values info ++ stack_values stack ++ context_values context ++ map pos mask)

-- the low words of the fields of a structure in some bytes
abbrev pub words_in : Shape → List ℕ → List ℕ
words_in shape bytes = map (low_number 4) (record_values shape bytes)

-- the processor and the alternate stack that some words are, in the order of their structures
abbrev pub context_of : List ℕ → Context
context_of words =
    record { pc = slice_index words 0; registers = take 32 (drop 1 words); hi = slice_index words 33; lo = slice_index words 34 }

abbrev pub stack_of : List ℕ → AlternateStack
stack_of words = record { sp = slice_index words 0; size = slice_index words 1; flags = slice_index words 2 }

-- the words behind those of a structure
abbrev pub behind : Shape → List ℕ → List ℕ
behind shape words = drop (length shape.fields) words

-- the signals that no mask holds back (signal(7)): KILL is 9 and STOP is 23, and a set has bit s - 1
-- for signal s
abbrev pub unblockable : ℕ
unblockable = 2 ^ (9 - 1) + 2 ^ (23 - 1)

-- a mask that comes back loses them
abbrev pub returned_mask : List ℕ → List ℕ
returned_mask [] = []
returned_mask (first ∷ more) = bit_and first (2 ^ 32 - 1 - unblockable) ∷ more

-- what a return reads in any bytes of a frame
unfoldable pub frame_context : List ℕ → Context
frame_context bytes = context_of (words_in frame bytes)

unfoldable pub frame_mask : List ℕ → List ℕ
frame_mask bytes = returned_mask (behind sigcontext (words_in frame bytes))

-- the same of a frame with siginfo, which a return does not look at
abbrev pub ucontext_words : List ℕ → List ℕ
ucontext_words bytes = behind siginfo (words_in (rt_frame_of siginfo) bytes)

unfoldable pub rt_frame_stack : List ℕ → AlternateStack
rt_frame_stack bytes = stack_of (ucontext_words bytes)

unfoldable pub rt_frame_context : List ℕ → Context
rt_frame_context bytes = context_of (behind stack (ucontext_words bytes))

unfoldable pub rt_frame_mask : List ℕ → List ℕ
rt_frame_mask bytes = returned_mask (behind sigcontext (behind stack (ucontext_words bytes)))
