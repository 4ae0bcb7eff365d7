-- What numbers that are kept of signals fit.
use Rattle.std.specs.Prelude.{◌<◌, ◌^◌}
use Rattle.kernel_model.specs.declared.signal.SigStack.{SigStack}

-- the place and the size of an alternate stack have 64 bits, and its flags 32
pub record IsNumberedStack (stack : SigStack) : Type 0 where
  pub sp : stack.sp < 2 ^ 64
  pub size : stack.size < 2 ^ 64
  pub flags : stack.flags < 2 ^ 32
