-- The names of a program in memory: their letters one behind the other, and the index, a row for each name in the order of the
-- names.
use Rattle.std.specs.Prelude.{ℕ, ◌+◌, ◌*◌, ◌/◌, ◌%◌, ◌≤◌, ◌<◌, ◌≡◌, List, [], length, get_or, take, drop}
use Rattle.source.specs.Limits.{most_bytes, most_cells}
use Rattle.source.specs.Memory.{name_rows, letters_in}
use Rattle.std.specs.declared.cmp.Ordering.TheVariants.{Less}
use Rattle.name_index.specs.Order.{side_of}

-- a row: where the letters of a name begin, times most_cells, and how many there are; that times name_rows, and the number of the
-- name, from 0
abbrev pub row_with : ℕ → ℕ → ℕ → ℕ
row_with begin many number = (begin * most_cells + many) * name_rows + number

abbrev pub begin_in : ℕ → ℕ
begin_in row = row / name_rows / most_cells

abbrev pub many_in : ℕ → ℕ
many_in row = row / name_rows % most_cells

abbrev pub number_in : ℕ → ℕ
number_in row = row % name_rows

-- the name of a row
abbrev pub name_in : List ℕ → ℕ → List ℕ
name_in letters row = take (many_in row) (drop (begin_in row) letters)

abbrev pub name_at : List ℕ → List ℕ → ℕ → List ℕ
name_at letters index i = name_in letters (get_or index i 0)

-- a row is that of one of the names ns, which have so many letters
pub record RowOf (ns : List (List ℕ)) (filled : ℕ) (letters : List ℕ) (row : ℕ) : Type 0 where
  pub numbered : number_in row < length ns
  pub named : name_in letters row ≡ get_or ns (number_in row) []
  pub inside : begin_in row + many_in row ≤ filled

-- which row is that of the name with number k
pub record Indexed (index : List ℕ) (v k : ℕ) : Type 0 where
  pub place : ℕ
  pub inside : place < v
  pub numbered : number_in (get_or index place 0) ≡ k

-- the v names ns, which have so many letters, stand in memory
pub record NamesHeld (ns : List (List ℕ)) (v filled : ℕ) (letters index : List ℕ) : Type 0 where
  pub counted : v ≡ length ns
  pub lettered : filled ≡ letters_in ns
  pub rows : (i : ℕ) → i < v → RowOf ns filled letters (get_or index i 0)
  pub ordered : (i j : ℕ) → i < j → j < v → side_of (name_at letters index i) (name_at letters index j) ≡ Less
  pub indexed : (k : ℕ) → k < v → Indexed index v k
  pub room_for_letters : length letters ≡ most_bytes
  pub room_for_rows : length index ≡ name_rows
