-- The first stack of a process, as one list of bytes from the stack pointer up to the end of its strings.
-- Source: MIPS RISC Processor Supplement, 3rd edition, "Process Stack and Registers", for the order of the words, and <linux/auxvec.h> for the types of the auxiliary vector. Where they leave a choice, the places and values are this project's own.
-- A text is the list of its bytes, without a NUL.
use Rattle.std.specs.Prelude.{ℕ, ◌+◌, ◌-◌, ◌*◌, ◌/◌, List, [], ◌∷◌, ◌++◌, length, take, replicate}
use Rattle.std.specs.List.{flat_map}
use Rattle.std.specs.Int.{w32, to_be_bytes}
use Rattle.elf_image.specs.declared.load_plan.Plan.{Plan}

-- the texts in the order in which they lie in memory: the arguments, the environment, and the program's name, the first argument, again
abbrev pub texts : List (List ℕ) → List (List ℕ) → List (List ℕ)
texts args env = args ++ env ++ take 1 args

-- texts one behind the other, each with a NUL at its end
abbrev pub strings : List (List ℕ) → List ℕ
strings ts = flat_map (λ text. text ++ 0 ∷ []) ts

-- where each text begins, if the first begins at `at`
abbrev pub addresses : ℕ → List (List ℕ) → List ℕ
addresses at [] = []
addresses at (text ∷ rest) = at ∷ addresses (at + (length text + 1)) rest

-- the greatest multiple of 16 that is at most the number
abbrev pub aligned : ℕ → ℕ
aligned n = n / 16 * 16

-- how many words stand on the stack: the count of arguments, the addresses of both lists with a 0 behind each, and 17 pairs
abbrev pub word_count : List (List ℕ) → List (List ℕ) → ℕ
word_count args env = length args + length env + 37

-- how many bytes the strings and the words take together
abbrev pub start_size : List (List ℕ) → List (List ℕ) → ℕ
start_size args env = length (strings (texts args env)) + 4 * word_count args env

-- how many bytes they may take at most (this project's own)
abbrev pub start_limit : ℕ
start_limit = 131072

-- where the strings begin: they end four bytes below the stack's end
abbrev pub strings_at : List (List ℕ) → List (List ℕ) → ℕ
strings_at args env = 0x7FFEFFFC - length (strings (texts args env))

-- where the sixteen random bytes stand
abbrev pub random_at : List (List ℕ) → List (List ℕ) → ℕ
random_at args env = aligned (strings_at args env - 16)

-- the stack pointer, at which the words begin
abbrev pub stack_pointer : List (List ℕ) → List (List ℕ) → ℕ
stack_pointer args env = aligned (random_at args env - 4 * word_count args env)

-- the auxiliary vector, type and value in turn
abbrev pub auxiliary : Plan → ℕ → ℕ → List ℕ
auxiliary plan random name =
    3 ∷ plan.phdr ∷ []  -- AT_PHDR: where the program headers lie
    ++ 4 ∷ 32 ∷ []  -- AT_PHENT: the size of one
    ++ 5 ∷ plan.phnum ∷ []  -- AT_PHNUM: how many there are
    ++ 6 ∷ 4096 ∷ []  -- AT_PAGESZ
    ++ 7 ∷ 0 ∷ []  -- AT_BASE: there is no interpreter
    ++ 8 ∷ 0 ∷ []  -- AT_FLAGS
    ++ 9 ∷ plan.entry ∷ []  -- AT_ENTRY
    ++ 11 ∷ 0 ∷ []  -- AT_UID
    ++ 12 ∷ 0 ∷ []  -- AT_EUID
    ++ 13 ∷ 0 ∷ []  -- AT_GID
    ++ 14 ∷ 0 ∷ []  -- AT_EGID
    ++ 16 ∷ 0 ∷ []  -- AT_HWCAP
    ++ 17 ∷ 100 ∷ []  -- AT_CLKTCK: ticks in a second
    ++ 23 ∷ 0 ∷ []  -- AT_SECURE
    ++ 25 ∷ random ∷ []  -- AT_RANDOM: where the random bytes stand
    ++ 31 ∷ name ∷ []  -- AT_EXECFN: where the program's name stands
    ++ 0 ∷ 0 ∷ []  -- AT_NULL

-- the words on the stack
abbrev pub words : Plan → List (List ℕ) → List (List ℕ) → List ℕ
words plan args env =
    let env_at = strings_at args env + length (strings args) in
    let name_at = env_at + length (strings env) in
    length args ∷ addresses (strings_at args env) args
    ++ 0 ∷ addresses env_at env
    ++ 0 ∷ auxiliary plan (random_at args env) name_at

-- a word as the machine's memory holds it, the high byte first
unfoldable pub big_endian : ℕ → List ℕ
big_endian word = to_be_bytes w32 word

-- words one behind the other
abbrev pub word_bytes : List ℕ → List ℕ
word_bytes ws = flat_map big_endian ws

-- all bytes from the stack pointer to the end of the strings
abbrev pub stack_bytes : Plan → List (List ℕ) → List (List ℕ) → List ℕ → List ℕ
stack_bytes plan args env random =
    word_bytes (words plan args env)
    ++ replicate (random_at args env - (stack_pointer args env + 4 * word_count args env)) 0
    ++ random
    ++ replicate (strings_at args env - (random_at args env + 16)) 0
    ++ strings (texts args env)
