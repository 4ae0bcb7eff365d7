-- Worked rows of the frames: where the parts of each stand, and what a return reads back. The numbers
-- are this project's own profile, and those of siginfo_t of Linux arch/mips/include/uapi/asm/siginfo.h.
use Rattle.std.proofs.Common.{◌≡◌, ℕ, List, [], ◌∷◌, ◌++◌, length, take, drop, refl, pos}
use Rattle.std.specs.Prelude.{negsuc, replicate}
use Rattle.layouts.specs.Frames.{Context, AlternateStack, Information, frame_bytes, frame_context, frame_mask, rt_frame_bytes, rt_frame_context, rt_frame_stack, rt_frame_mask, siginfo_bytes}

abbrev context : Context
context = record {
  pc = 0x00400110;
  registers =
      0x80000000 ∷ 0x01020304 ∷ 2 ∷ 3 ∷ 4 ∷ 5 ∷ 6 ∷ 7 ∷ 8 ∷ 9 ∷ 10 ∷ 11 ∷ 12 ∷ 13 ∷ 14 ∷ 15 ∷ 16 ∷ 17 ∷ 18 ∷ 19
      ∷ 20 ∷ 21 ∷ 22 ∷ 23 ∷ 24 ∷ 25 ∷ 26 ∷ 27 ∷ 28 ∷ 0x7FFEFF40 ∷ 30 ∷ 31 ∷ [];
  hi = 0xFFFFFFFF;
  lo = 5;
}

abbrev mask : List ℕ
mask = 0xFFFFFFFF ∷ 0x80000001 ∷ 0 ∷ 5 ∷ []

abbrev stack : AlternateStack
stack = record { sp = 0x10000000; size = 0x2000; flags = 2 }

-- queued by the schedule with the value 9
abbrev sent : Information
sent = record { signo = 16; code = negsuc 0; errno = pos 0; pid = 1; uid = 0; value = 9; address = 0 }

-- a load from address 16
abbrev fault : Information
fault = record { signo = 11; code = pos 1; errno = pos 0; pid = 0; uid = 0; value = 0; address = 16 }

abbrev bytes_at : ℕ → ℕ → List ℕ → List ℕ
bytes_at offset count bytes = take count (drop offset bytes)

abbrev frame : List ℕ
frame = frame_bytes context mask

abbrev rt_frame : List ℕ
rt_frame = rt_frame_bytes sent stack context mask

abbrev rt_frame_of_fault : List ℕ
rt_frame_of_fault = rt_frame_bytes fault stack context mask

size_of_frame : length frame ≡ 632
unfolding frame_bytes
size_of_frame = refl

size_of_rt_frame : length rt_frame ≡ 784
unfolding rt_frame_bytes
size_of_rt_frame = refl

pc_in_frame : bytes_at 32 8 frame ≡ 0 ∷ 0 ∷ 0 ∷ 0 ∷ 0 ∷ 0x40 ∷ 1 ∷ 0x10 ∷ []
unfolding frame_bytes
pc_in_frame = refl

register_0_in_frame : bytes_at 40 8 frame ≡ 0xFF ∷ 0xFF ∷ 0xFF ∷ 0xFF ∷ 0x80 ∷ 0 ∷ 0 ∷ 0 ∷ []
unfolding frame_bytes
register_0_in_frame = refl

register_1_in_frame : bytes_at 48 8 frame ≡ 0 ∷ 0 ∷ 0 ∷ 0 ∷ 1 ∷ 2 ∷ 3 ∷ 4 ∷ []
unfolding frame_bytes
register_1_in_frame = refl

hi_and_lo_in_frame : bytes_at 576 16 frame ≡ replicate 8 0xFF ++ 0 ∷ 0 ∷ 0 ∷ 0 ∷ 0 ∷ 0 ∷ 0 ∷ 5 ∷ []
unfolding frame_bytes
hi_and_lo_in_frame = refl

mask_in_frame : bytes_at 616 16 frame ≡ replicate 4 0xFF ++ 0x80 ∷ 0 ∷ 0 ∷ 1 ∷ 0 ∷ 0 ∷ 0 ∷ 0 ∷ 0 ∷ 0 ∷ 0 ∷ 5 ∷ []
unfolding frame_bytes
mask_in_frame = refl

info_in_rt_frame : bytes_at 24 128 rt_frame ≡ siginfo_bytes sent
unfolding rt_frame_bytes
info_in_rt_frame = refl

fault_in_rt_frame : bytes_at 24 128 rt_frame_of_fault ≡ siginfo_bytes fault
unfolding rt_frame_bytes
fault_in_rt_frame = refl

stack_in_rt_frame : bytes_at 160 12 rt_frame ≡ 0x10 ∷ 0 ∷ 0 ∷ 0 ∷ 0 ∷ 0 ∷ 0x20 ∷ 0 ∷ 0 ∷ 0 ∷ 0 ∷ 2 ∷ []
unfolding rt_frame_bytes
stack_in_rt_frame = refl

pc_in_rt_frame : bytes_at 184 8 rt_frame ≡ 0 ∷ 0 ∷ 0 ∷ 0 ∷ 0 ∷ 0x40 ∷ 1 ∷ 0x10 ∷ []
unfolding rt_frame_bytes
pc_in_rt_frame = refl

register_1_in_rt_frame : bytes_at 200 8 rt_frame ≡ 0 ∷ 0 ∷ 0 ∷ 0 ∷ 1 ∷ 2 ∷ 3 ∷ 4 ∷ []
unfolding rt_frame_bytes
register_1_in_rt_frame = refl

mask_in_rt_frame : bytes_at 768 16 rt_frame ≡ bytes_at 616 16 frame
unfolding rt_frame_bytes frame_bytes
mask_in_rt_frame = refl

sent_siginfo : siginfo_bytes sent
    ≡ 0 ∷ 0 ∷ 0 ∷ 16 ∷ 0xFF ∷ 0xFF ∷ 0xFF ∷ 0xFF ∷ 0 ∷ 0 ∷ 0 ∷ 0 ∷ 0 ∷ 0 ∷ 0 ∷ 1 ∷ 0 ∷ 0 ∷ 0 ∷ 0 ∷ 0 ∷ 0 ∷ 0 ∷ 9 ∷ replicate 104 0
sent_siginfo = refl

fault_siginfo : siginfo_bytes fault
    ≡ 0 ∷ 0 ∷ 0 ∷ 11 ∷ 0 ∷ 0 ∷ 0 ∷ 1 ∷ 0 ∷ 0 ∷ 0 ∷ 0 ∷ 0 ∷ 0 ∷ 0 ∷ 16 ∷ replicate 112 0
fault_siginfo = refl

context_back : frame_context frame ≡ context
unfolding frame_context frame_bytes
context_back = refl

-- KILL and STOP are gone
mask_back : frame_mask frame ≡ 0xFFBFFEFF ∷ 0x80000001 ∷ 0 ∷ 5 ∷ []
unfolding frame_mask frame_bytes
mask_back = refl

context_back_in_rt : rt_frame_context rt_frame ≡ context
unfolding rt_frame_context rt_frame_bytes
context_back_in_rt = refl

stack_back_in_rt : rt_frame_stack rt_frame ≡ stack
unfolding rt_frame_stack rt_frame_bytes
stack_back_in_rt = refl

mask_back_in_rt : rt_frame_mask rt_frame ≡ 0xFFBFFEFF ∷ 0x80000001 ∷ 0 ∷ 5 ∷ []
unfolding rt_frame_mask rt_frame_bytes
mask_back_in_rt = refl

stack_back_of_fault : rt_frame_stack rt_frame_of_fault ≡ stack
unfolding rt_frame_stack rt_frame_bytes
stack_back_of_fault = refl

context_back_of_fault : rt_frame_context rt_frame_of_fault ≡ context
unfolding rt_frame_context rt_frame_bytes
context_back_of_fault = refl
