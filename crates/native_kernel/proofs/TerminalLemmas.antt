-- The settings of a terminal in a structure.
use Rattle.std.proofs.Common.{◌≡◌, ℕ, ◌<◌, ◌^◌, Bool, true, false, ◌&&◌, List, [], ◌∷◌, ℤ, pos, nat_lt, to_z, of_z, Option, Some, Ok, refl, ap, ◌∙◌, arith}
use Rattle.std.specs.Prelude.{slice_index}
use Rattle.std.proofs.lemmas.Bool.Decides.{nat_tests}
use Rattle.std.proofs.lemmas.Int.{ints}
use lib.Signed.{mag}
use mir.Syntax.{w128}
use Rattle.host_mem.specs.Memory.{bytes_at}
use Rattle.kernel_model.specs.Came.{Given}
use Rattle.kernel_model.specs.declared.terminal.TerminalCharacters.{TerminalCharacters}
use Rattle.kernel_model.specs.declared.terminal.TerminalSettings.{TerminalSettings}
use Rattle.layouts.specs.Native.{termios}
use Rattle.layouts.specs.Shape.{are_in_range}
use Rattle.native_calls.specs.HostBytes.{given, read_as}
use Rattle.native_calls.specs.Terminal.{characters_of, settings_at, settings_in, settings_of, settings_values}

-- a number as code keeps it among signed ones of 128 bits
pub kept : (value : ℤ) (number : ℕ) → value ≡ pos number → mag value < 170141183460469231731687303715884105728 → to_z w128 (of_z w128 value) ≡ pos number
kept value number e small = omega (arith, ints)

pub characters_are : (fields : List ℕ) (v0 v1 v2 v3 v4 v5 v6 v7 v8 v9 v10 v11 v12 v13 v14 v15 v16 : ℕ)
    → v0 ≡ slice_index fields 5 → v1 ≡ slice_index fields 6 → v2 ≡ slice_index fields 7 → v3 ≡ slice_index fields 8 → v4 ≡ slice_index fields 9 → v5 ≡ slice_index fields 10 → v6 ≡ slice_index fields 11 → v7 ≡ slice_index fields 12 → v8 ≡ slice_index fields 13 → v9 ≡ slice_index fields 14 → v10 ≡ slice_index fields 15 → v11 ≡ slice_index fields 16 → v12 ≡ slice_index fields 17 → v13 ≡ slice_index fields 18 → v14 ≡ slice_index fields 19 → v15 ≡ slice_index fields 20 → v16 ≡ slice_index fields 21
    → ◌≡◌ {A = TerminalCharacters} (record { intr = v0; quit = v1; erase = v2; kill = v3; eof = v4; time = v5; min = v6; swtc = v7; start = v8; stop = v9; susp = v10; eol = v11; reprint = v12; discard = v13; werase = v14; lnext = v15; eol2 = v16 }) (characters_of fields)
characters_are fields v0 v1 v2 v3 v4 v5 v6 v7 v8 v9 v10 v11 v12 v13 v14 v15 v16 e0 e1 e2 e3 e4 e5 e6 e7 e8 e9 e10 e11 e12 e13 e14 e15 e16 =
    rw (e0, e1, e2, e3, e4, e5, e6, e7, e8, e9, e10, e11, e12, e13, e14, e15, e16) refl

pub settings_are : (fields : List ℕ) (input output control local line : ℕ) (characters : TerminalCharacters)
    → input ≡ slice_index fields 0 → output ≡ slice_index fields 1 → control ≡ slice_index fields 2 → local ≡ slice_index fields 3
    → line ≡ slice_index fields 4 → characters ≡ characters_of fields
    → ◌≡◌ {A = TerminalSettings} (record { input = input; output = output; control = control; local = local; line = line; characters = characters }) (settings_of fields)
settings_are fields input output control local line characters e0 e1 e2 e3 e4 e5 = rw (e0, e1, e2, e3, e4, e5) refl

pub values_are : (s : TerminalSettings) (z0 z1 z2 z3 z4 z5 z6 z7 z8 z9 z10 z11 z12 z13 z14 z15 z16 z17 z18 z19 z20 z21 : ℤ)
    → z0 ≡ pos s.input → z1 ≡ pos s.output → z2 ≡ pos s.control → z3 ≡ pos s.local → z4 ≡ pos s.line → z5 ≡ pos s.characters.intr → z6 ≡ pos s.characters.quit → z7 ≡ pos s.characters.erase → z8 ≡ pos s.characters.kill → z9 ≡ pos s.characters.eof → z10 ≡ pos s.characters.time → z11 ≡ pos s.characters.min → z12 ≡ pos s.characters.swtc → z13 ≡ pos s.characters.start → z14 ≡ pos s.characters.stop → z15 ≡ pos s.characters.susp → z16 ≡ pos s.characters.eol → z17 ≡ pos s.characters.reprint → z18 ≡ pos s.characters.discard → z19 ≡ pos s.characters.werase → z20 ≡ pos s.characters.lnext → z21 ≡ pos s.characters.eol2
    → z0 ∷ z1 ∷ z2 ∷ z3 ∷ z4 ∷ z5 ∷ z6 ∷ z7 ∷ z8 ∷ z9 ∷ z10 ∷ z11 ∷ z12 ∷ z13 ∷ z14 ∷ z15 ∷ z16 ∷ z17 ∷ z18 ∷ z19 ∷ z20 ∷ z21 ∷ pos 0 ∷ pos 0 ∷ [] ≡ settings_values s
values_are s z0 z1 z2 z3 z4 z5 z6 z7 z8 z9 z10 z11 z12 z13 z14 z15 z16 z17 z18 z19 z20 z21 e0 e1 e2 e3 e4 e5 e6 e7 e8 e9 e10 e11 e12 e13 e14 e15 e16 e17 e18 e19 e20 e21 = rw (e0, e1, e2, e3, e4, e5, e6, e7, e8, e9, e10, e11, e12, e13, e14, e15, e16, e17, e18, e19, e20, e21) refl

below : (number bound : ℕ) → number < bound → nat_lt number bound ≡ true
below number bound small = grind (arith, nat_tests)

both : (a b : Bool) → a ≡ true → b ≡ true → (a && b) ≡ true
both true b first second = second
both false b first second = cc

-- each number is in its field's range
pub settings_fit : (s : TerminalSettings)
    → s.input < 2 ^ 32 → s.output < 2 ^ 32 → s.control < 2 ^ 32 → s.local < 2 ^ 32 → s.line < 2 ^ 8 → s.characters.intr < 2 ^ 8 → s.characters.quit < 2 ^ 8 → s.characters.erase < 2 ^ 8 → s.characters.kill < 2 ^ 8 → s.characters.eof < 2 ^ 8 → s.characters.time < 2 ^ 8 → s.characters.min < 2 ^ 8 → s.characters.swtc < 2 ^ 8 → s.characters.start < 2 ^ 8 → s.characters.stop < 2 ^ 8 → s.characters.susp < 2 ^ 8 → s.characters.eol < 2 ^ 8 → s.characters.reprint < 2 ^ 8 → s.characters.discard < 2 ^ 8 → s.characters.werase < 2 ^ 8 → s.characters.lnext < 2 ^ 8 → s.characters.eol2 < 2 ^ 8
    → are_in_range termios.fields (settings_values s) ≡ true
settings_fit s h0 h1 h2 h3 h4 h5 h6 h7 h8 h9 h10 h11 h12 h13 h14 h15 h16 h17 h18 h19 h20 h21 =
    both _ _ (below s.input (2 ^ 32) h0) (both _ _ (below s.output (2 ^ 32) h1) (both _ _ (below s.control (2 ^ 32) h2) (both _ _ (below s.local (2 ^ 32) h3) (both _ _ (below s.line (2 ^ 8) h4) (both _ _ (below s.characters.intr (2 ^ 8) h5) (both _ _ (below s.characters.quit (2 ^ 8) h6) (both _ _ (below s.characters.erase (2 ^ 8) h7) (both _ _ (below s.characters.kill (2 ^ 8) h8) (both _ _ (below s.characters.eof (2 ^ 8) h9) (both _ _ (below s.characters.time (2 ^ 8) h10) (both _ _ (below s.characters.min (2 ^ 8) h11) (both _ _ (below s.characters.swtc (2 ^ 8) h12) (both _ _ (below s.characters.start (2 ^ 8) h13) (both _ _ (below s.characters.stop (2 ^ 8) h14) (both _ _ (below s.characters.susp (2 ^ 8) h15) (both _ _ (below s.characters.eol (2 ^ 8) h16) (both _ _ (below s.characters.reprint (2 ^ 8) h17) (both _ _ (below s.characters.discard (2 ^ 8) h18) (both _ _ (below s.characters.werase (2 ^ 8) h19) (both _ _ (below s.characters.lnext (2 ^ 8) h20) (both _ _ (below s.characters.eol2 (2 ^ 8) h21) (refl))))))))))))))))))))))

-- the settings of the bytes that are there
pub settings_found : (memory bytes : List ℕ) (address : ℕ) (settings : TerminalSettings)
    → Some bytes ≡ bytes_at memory address 36 → settings ≡ settings_in bytes
    → ◌≡◌ {A = Given TerminalSettings} (Ok settings) (settings_at memory address)
settings_found memory bytes address settings there e =
    ap (λ (v : TerminalSettings). Ok v) e ∙ ap (λ (o : Option (List ℕ)). read_as settings_in (given o)) there
