-- The bytes of a word that loads take and stores replace, and the results of atomic operations.
use Rattle.std.specs.Prelude.{ℕ, ◌+◌, ◌-◌, ◌*◌, ◌/◌, ◌%◌, ◌^◌, ◌==◌, Bool, nat_lt, min, max, pos, ◌-ℤ◌, bit_and, bit_or, bit_xor, List, [], ◌∷◌, ◌++◌, take, drop, if◌then◌else◌}
use Rattle.std.specs.Int.{int_min, int_max}
use Rattle.slack_base.specs.declared.instructions.AmoOp.{AmoOp}
use Rattle.slack_base.specs.declared.instructions.AmoOp.TheVariants.{Amoswap, Amoadd, Amoxor, Amoand, Amoor, Amomin, Amomax, Amominu, Amomaxu}
use Rattle.slack_base.specs.declared.instructions.LoadOp.{LoadOp}
use Rattle.slack_base.specs.declared.instructions.LoadOp.TheVariants.{Lb, Lh, Lw, Lbu, Lhu}
use Rattle.slack_base.specs.declared.instructions.StoreOp.{StoreOp}
use Rattle.slack_base.specs.declared.instructions.StoreOp.TheVariants.{Sb, Sh, Sw}
use Rattle.rv_exec.specs.Words.{signed_of, word_of}

-- what an atomic operation writes, of the old word and the register's word
unfoldable pub amo_of : AmoOp → ℕ → ℕ → ℕ
amo_of Amoswap old operand = operand
amo_of Amoadd old operand = (old + operand) % 2 ^ 32
amo_of Amoxor old operand = bit_xor old operand
amo_of Amoand old operand = bit_and old operand
amo_of Amoor old operand = bit_or old operand
amo_of Amomin old operand = word_of (int_min (signed_of old) (signed_of operand))
amo_of Amomax old operand = word_of (int_max (signed_of old) (signed_of operand))
amo_of Amominu old operand = min old operand
amo_of Amomaxu old operand = max old operand

-- how many bytes an access has
abbrev pub size_of_load : LoadOp → ℕ
size_of_load Lb = 1
size_of_load Lh = 2
size_of_load Lw = 4
size_of_load Lbu = 1
size_of_load Lhu = 2

abbrev pub size_of_store : StoreOp → ℕ
size_of_store Sb = 1
size_of_store Sh = 2
size_of_store Sw = 4

-- the address is a multiple of the size
abbrev pub is_aligned_load : LoadOp → ℕ → Bool
is_aligned_load op address = address % size_of_load op == 0

abbrev pub is_aligned_store : StoreOp → ℕ → Bool
is_aligned_store op address = address % size_of_store op == 0

-- byte k of a word, where byte 0 is the lowest
abbrev pub byte_of : ℕ → ℕ → ℕ
byte_of w k = w / 2 ^ (8 * k) % 256

abbrev pub bytes_of : ℕ → List ℕ
bytes_of w = byte_of w 0 ∷ byte_of w 1 ∷ byte_of w 2 ∷ byte_of w 3 ∷ []

-- the number that these bytes are, the lowest first
abbrev pub number_of : List ℕ → ℕ
number_of [] = 0
number_of (b ∷ bs) = b + 256 * number_of bs

-- so many bytes of the word w, from byte k on
unfoldable pub part_of : ℕ → ℕ → ℕ → ℕ
part_of size w k = number_of (take size (drop k (bytes_of w)))

-- the word w with so many bytes, from byte k on, replaced by the lowest of v
unfoldable pub word_with : ℕ → ℕ → ℕ → ℕ → ℕ
word_with size w k v = number_of (take k (bytes_of w) ++ take size (bytes_of v) ++ drop (k + size) (bytes_of w))

-- the word of the signed number that n is at so many bits: its highest bit fills the bits above
unfoldable pub sign_extension : ℕ → ℕ → ℕ
sign_extension bits n = if nat_lt n (2 ^ (bits - 1)) then n else word_of (pos n -ℤ pos (2 ^ bits))

-- what a load of the word w from byte k on gives
unfoldable pub load_of : LoadOp → ℕ → ℕ → ℕ
load_of Lb w k = sign_extension 8 (part_of 1 w k)
load_of Lh w k = sign_extension 16 (part_of 2 w k)
load_of Lw w k = part_of 4 w k
load_of Lbu w k = part_of 1 w k
load_of Lhu w k = part_of 2 w k

-- the word w after a store of v from byte k on
unfoldable pub store_of : StoreOp → ℕ → ℕ → ℕ → ℕ
store_of Sb w k v = word_with 1 w k v
store_of Sh w k v = word_with 2 w k v
store_of Sw w k v = word_with 4 w k v
