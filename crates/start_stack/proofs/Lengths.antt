-- How long the text of the first stack is.
use Rattle.std.proofs.Common.{◌≡◌, ℕ, List, [], ◌∷◌, ◌++◌, length, replicate, refl, arith, ◌+◌, ◌-◌, ◌*◌, ◌≤◌, length-append}
use Rattle.std.proofs.lemmas.List.{length-replicate}
use Rattle.elf_image.specs.declared.load_plan.Plan.{Plan}
use Rattle.start_stack.specs.Stack.{texts, strings, addresses, word_count, start_size, strings_at, random_at, stack_pointer, auxiliary, words, big_endian, word_bytes, stack_bytes}

length-big_endian : (word : ℕ) → length (big_endian word) ≡ 4
unfolding big_endian
length-big_endian word = refl

pub length-word_bytes : (ws : List ℕ) → length (word_bytes ws) ≡ 4 * length ws
length-word_bytes [] = refl
length-word_bytes (w ∷ ws) = omega (arith, length-append (big_endian w) (word_bytes ws), length-big_endian w, length-word_bytes ws)

length-addresses : (at : ℕ) (ts : List (List ℕ)) → length (addresses at ts) ≡ length ts
length-addresses at [] = refl
length-addresses at (t ∷ ts) = omega (arith, length-addresses (at + (length t + 1)) ts)

pub length-words : (plan : Plan) (args env : List (List ℕ)) → length (words plan args env) ≡ word_count args env
length-words plan args env =
    let env_at = strings_at args env + length (strings args) in
    let first = addresses (strings_at args env) args in
    let second = addresses env_at env in
    let third = auxiliary plan (random_at args env) (env_at + length (strings env)) in
    omega (
      arith,
      length-append (length args ∷ first ++ 0 ∷ second) (0 ∷ third),
      length-append (length args ∷ first) (0 ∷ second),
      length-addresses (strings_at args env) args,
      length-addresses env_at env,
    )

-- where the pieces are short, the stack pointer lies in the stack
pub stack_pointer-low : (args env : List (List ℕ)) → start_size args env ≤ 131072 → 0x7F7F0000 ≤ stack_pointer args env
stack_pointer-low args env fits = omega arith

-- and the text ends four bytes below the stack's end
pub stack_bytes-end : (plan : Plan) (args env : List (List ℕ)) (random : List ℕ) → length random ≡ 16 → start_size args env ≤ 131072
    → stack_pointer args env + length (stack_bytes plan args env random) ≡ 0x7FFEFFFC
stack_bytes-end plan args env random sixteen fits =
    let ws = word_bytes (words plan args env) in
    let gap : List ℕ = replicate (random_at args env - (stack_pointer args env + 4 * word_count args env)) 0 in
    let space : List ℕ = replicate (strings_at args env - (random_at args env + 16)) 0 in
    let ss = strings (texts args env) in
    omega (
      arith,
      length-append (ws ++ gap ++ random ++ space) ss,
      length-append (ws ++ gap ++ random) space,
      length-append (ws ++ gap) random,
      length-append ws gap,
      length-word_bytes (words plan args env),
      length-words plan args env,
      length-replicate {A = ℕ} (random_at args env - (stack_pointer args env + 4 * word_count args env)) 0,
      length-replicate {A = ℕ} (strings_at args env - (random_at args env + 16)) 0,
      sixteen,
      fits,
    )
