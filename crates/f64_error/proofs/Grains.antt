-- Two powers of two in units of 2 ^ -1074, which stay shut behind a name. Assumes nothing.
use Prim.Native.Nat.{ℕ, ◌^◌}

-- 2 ^ -60, in which errors are counted
unfoldable pub grain : ℕ
grain = 2 ^ 1014

-- 2 ^ -222, of which the exact double sum is a whole number
unfoldable pub mesh : ℕ
mesh = 2 ^ 852
