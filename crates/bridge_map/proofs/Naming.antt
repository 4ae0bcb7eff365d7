-- Which calls, by their names, ask the kernel for nothing.
use Rattle.std.proofs.Common.{◌≡◌, ℕ, true, refl, sym, subst, ◌⊎◌, inl, inr, ◌∙◌, ap}
use Rattle.std.specs.Prelude.{◌==◌, ◌&&◌, ◌||◌, not}
use Rattle.o32_calls.specs.Numbers.{map_number}
use Rattle.o32_calls.specs.declared.mappings.MapCall.{MapCall}
use Rattle.o32_calls.specs.declared.mappings.MapCall.TheVariants.{Brk, Mmap, Munmap, Mprotect, Msync, Mremap, Mmap2, Madvise}
use Rattle.o32_model.specs.Table.{is_map_call}
use Rattle.o32_model.specs.declared.call_words.CallWords.{CallWords}
use Rattle.bridge_map.specs.Rows.{is_call_of_memory, maps_no_file}

by_number : (number : ℕ) (words : CallWords) → words.nr ≡ number → (is_map_call number && (not (number == map_number Mmap || number == map_number Mmap2) || maps_no_file words)) ≡ true → is_call_of_memory words ≡ true
by_number number words same there =
    subst (λ (n : ℕ). (is_map_call n && (not (n == map_number Mmap || n == map_number Mmap2) || maps_no_file words)) ≡ true) (sym same) there

-- one that maps no file
pub of_memory_without_file : (call : MapCall) (words : CallWords) → words.nr ≡ map_number call → maps_no_file words ≡ true → is_call_of_memory words ≡ true
of_memory_without_file Brk words same free = by_number (map_number Brk) words same refl
of_memory_without_file Mmap words same free = by_number (map_number Mmap) words same free
of_memory_without_file Munmap words same free = by_number (map_number Munmap) words same refl
of_memory_without_file Mprotect words same free = by_number (map_number Mprotect) words same refl
of_memory_without_file Msync words same free = by_number (map_number Msync) words same refl
of_memory_without_file Mremap words same free = by_number (map_number Mremap) words same refl
of_memory_without_file Mmap2 words same free = by_number (map_number Mmap2) words same free
of_memory_without_file Madvise words same free = by_number (map_number Madvise) words same refl

-- none of the two mmaps
pub of_memory : (call : MapCall) (words : CallWords) → words.nr ≡ map_number call
    → (call ≡ Brk) ⊎ ((call ≡ Munmap) ⊎ ((call ≡ Mprotect) ⊎ ((call ≡ Msync) ⊎ ((call ≡ Mremap) ⊎ (call ≡ Madvise))))) → is_call_of_memory words ≡ true
of_memory call words same (inl is) = by_number (map_number Brk) words (same ∙ ap map_number is) refl
of_memory call words same (inr (inl is)) = by_number (map_number Munmap) words (same ∙ ap map_number is) refl
of_memory call words same (inr (inr (inl is))) = by_number (map_number Mprotect) words (same ∙ ap map_number is) refl
of_memory call words same (inr (inr (inr (inl is)))) = by_number (map_number Msync) words (same ∙ ap map_number is) refl
of_memory call words same (inr (inr (inr (inr (inl is))))) = by_number (map_number Mremap) words (same ∙ ap map_number is) refl
of_memory call words same (inr (inr (inr (inr (inr is))))) = by_number (map_number Madvise) words (same ∙ ap map_number is) refl
