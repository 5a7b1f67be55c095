-- The memory and the leftovers as bytes: words of two bytes, the low byte first.
use Rattle.std.specs.Prelude.{ℕ, ◌-◌, ◌*◌, ◌/◌, ◌%◌, ◌<◌, ◌≤◌, List, ◌≡◌, ltb, eqb, ℤ, pos, length, get_or, take, drop}
use Rattle.std.specs.Int.Signed.{mag}
use Rattle.ec20.specs.Basics.{pick, list}
use Rattle.ec20.specs.File.{u16_at, byte_at}
use Rattle.ec20.specs.Memory.{Memory, memory}
use Rattle.ec20.specs.Numbers.{low, signed}
use Rattle.ec20.specs.Plant.{Plant, plant}
use Rattle.ec20.specs.Registers.{word_at}

-- l has n entries, and entry i is f i. (z is what lies past the end, and is not looked at.)
abbrev pub Filled : {A : Type 0} → A → ℕ → (ℕ → A) → List A → Type 0
Filled z n f l = (length l ≡ n) × ((i : ℕ) → i < n → get_or l i z ≡ f i)

-- word i of the bytes; 0 where they are not there
unfoldable pub word_in : List ℕ → ℕ → ℤ
word_in b i = pick (ltb i (length b / 2)) (signed 32768 (u16_at b (2 * i))) (pos 0)

-- the words of the bytes
unfoldable pub words_of : List ℕ → List ℤ
words_of b = list (length b / 2) (word_in b)

-- byte i of the words; 0 where they are not there
unfoldable pub byte_of : List ℤ → ℕ → ℕ
byte_of d i = pick (eqb (i % 2) 0) (low 65536 (word_at d (i / 2)) % 256) (low 65536 (word_at d (i / 2)) / 256)

-- n bytes from byte a on
abbrev pub part : ℕ → ℕ → List ℕ → List ℕ
part a n b = take n (drop a b)

-- byte i of a memory file: "X 32 bytes, Y 32, M 250, SM 32, T contacts 32"
unfoldable pub bit_byte : List ℕ → List ℕ → List ℕ → List ℕ → List ℕ → ℕ → ℕ
bit_byte x y m sm t i =
    pick (ltb i 32) (byte_at x i)
    (pick (ltb i 64) (byte_at y (i - 32))
    (pick (ltb i 314) (byte_at m (i - 64))
    (pick (ltb i 346) (byte_at sm (i - 314)) (byte_at t (i - 346)))))

-- after the bits "8,000 signed 16-bit D words and 256 signed 16-bit T values", and then the two leftovers
unfoldable pub image_byte : Plant → ℕ → ℕ
image_byte q i =
    let c = q.mem in
    pick (ltb i 378) (bit_byte c.x c.y c.m c.sm c.t i)
    (pick (ltb i 16378) (byte_of c.d (i - 378))
    (pick (ltb i 16890) (byte_of c.tv (i - 16378)) (byte_at q.rest (i - 16890))))

-- the tables of a memory file: "X 32 bytes, Y 32, M 250, SM 32, T contacts 32), 8,000 signed 16-bit D words and 256 signed 16-bit T values"
unfoldable pub memory_of : List ℕ → Memory
memory_of b =
    memory (part 0 32 b) (part 32 32 b) (part 64 250 b) (part 314 32 b) (part 346 32 b) (words_of (part 378 16000 b)) (words_of (part 16378 512 b))

-- "The memory gains two leftovers": the last two bytes of its file, first that of the 10 ms timers, then that of the 100 ms timers
unfoldable pub plant_of : List ℕ → Plant
plant_of b = plant (memory_of b) (part 16890 2 b)

-- the bytes of a memory file with these tables and leftovers
unfoldable pub image_of : Plant → List ℕ
image_of q = list 16892 (image_byte q)

-- each table has as many entries as a memory file has of it, and there are two leftovers
pub record Sizes (q : Plant) : Type 0 where
  pub x : length q.mem.x ≡ 32
  pub y : length q.mem.y ≡ 32
  pub m : length q.mem.m ≡ 250
  pub sm : length q.mem.sm ≡ 32
  pub t : length q.mem.t ≡ 32
  pub d : length q.mem.d ≡ 8000
  pub tv : length q.mem.tv ≡ 256
  pub rest : length q.rest ≡ 2

-- each is a byte
abbrev pub OfBytes : List ℕ → Type 0
OfBytes b = (i : ℕ) → byte_at b i < 256

-- each is a signed number of 16 bits
abbrev pub OfWords : List ℤ → Type 0
OfWords d = (i : ℕ) → mag (word_at d i) < 32768

-- what a memory file can hold: tables and leftovers of these sizes, and words of 16 bits. (Bytes stand in it as they are.)
pub record Kept (q : Plant) : Type 0 where
  pub sizes : Sizes q
  pub d : OfWords q.mem.d
  pub tv : OfWords q.mem.tv

-- the word that byte i of a memory file is of, where it is of one, has 16 bits
pub record Word16 (d tv : List ℤ) (i : ℕ) : Type 0 where
  pub in_d : 378 ≤ i → i < 16378 → mag (word_at d ((i - 378) / 2)) < 32768
  pub in_tv : 16378 ≤ i → i < 16890 → mag (word_at tv ((i - 16378) / 2)) < 32768
