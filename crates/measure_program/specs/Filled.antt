-- Reading a file until it ends or the buffer is full.
use Rattle.std.specs.Prelude.{◌≡◌, List, ℕ, take}

-- What was read are the file's bytes, all of them or as many as there is room for.
abbrev pub Filled : ℕ → List ℕ → List ℕ → Type 0
Filled room file bytes = bytes ≡ take room file
