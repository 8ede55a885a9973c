-- A record of a block, and the same task as an entry of a list. Definitions only.
use Rattle.std.specs.Prelude.{ℕ, ◌+◌, ◌*◌, ◌/◌, ◌%◌, Bool, ◌&&◌, List, [], ◌∷◌, ◌++◌, get_or, eqb, ltb}
use Rattle.base.specs.Lists.{part, every}
use Rattle.block.specs.declared.Task.{Task}
use Rattle.block.specs.Format.{list_size}

-- numbers are little-endian: a byte, two bytes, four bytes at a place
abbrev pub byte_at : List ℕ → ℕ → ℕ
byte_at b a = get_or b a 0

abbrev pub half_at : List ℕ → ℕ → ℕ
half_at b a = byte_at b a + 256 * byte_at b (a + 1)

abbrev pub word_at : List ℕ → ℕ → ℕ
word_at b a = half_at b a + 65536 * half_at b (a + 2)

abbrev pub half_bytes : ℕ → List ℕ
half_bytes n = n % 256 ∷ n / 256 % 256 ∷ []

abbrev pub word_bytes : ℕ → List ℕ
word_bytes n = half_bytes n ++ half_bytes (n / 65536)

-- every byte is zero
abbrev pub all_zero : List ℕ → Bool
all_zero bytes = every (λ b. eqb b 0) bytes

-- a task by kind, priority, number, T, D, C, Y
abbrev pub task_by : ℕ → ℕ → ℕ → ℕ → ℕ → ℕ → ℕ → Task
task_by k p n T D C Y = record { kind = k; priority = p; number = n; period = T; deadline = D; execution = C; offset = Y }

-- the task that the sixteen bytes of a record say: kind, priority, number, T, D, C, Y
unfoldable pub task_of : List ℕ → Task
task_of r = record {
  kind = byte_at r 0;
  priority = byte_at r 1;
  number = half_at r 2;
  period = half_at r 4;
  deadline = half_at r 6;
  execution = half_at r 8;
  offset = half_at r 10;
}

-- the sixteen bytes of a task
unfoldable pub record_of : Task → List ℕ
record_of x =
    x.kind ∷ x.priority
    ∷ (half_bytes x.number ++ half_bytes x.period ++ half_bytes x.deadline ++ half_bytes x.execution ++ half_bytes x.offset ++ (0 ∷ 0 ∷ 0 ∷ 0 ∷ []))

-- the task that an entry says, and the entry of a task
unfoldable pub task_from : List ℕ → Task
task_from l = record {
  kind = get_or l 0 0;
  priority = get_or l 1 0;
  number = get_or l 2 0;
  period = get_or l 3 0;
  deadline = get_or l 4 0;
  execution = get_or l 5 0;
  offset = get_or l 6 0;
}

unfoldable pub numbers_of : Task → List ℕ
numbers_of x = x.kind ∷ x.priority ∷ x.number ∷ x.period ∷ x.deadline ∷ x.execution ∷ x.offset ∷ []

-- each number fits its field: kind and priority a byte, the others two
abbrev pub all_below : ℕ → List ℕ → Bool
all_below bound l = every (λ n. ltb n bound) l

abbrev pub fits : List ℕ → Bool
fits l = all_below 256 (part l 0 2) && all_below 65536 (part l 2 list_size)
