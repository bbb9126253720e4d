-- How the lines of stored cases are parted into blocks.
use Rattle.std.specs.Prelude.{◌≡◌, ◌≢◌, ℕ, List, [], ◌∷◌, ◌++◌, All, Ok, Err, Result, ⊤, map, Vec, vec_items, codes}
use Rattle.std.specs.Borrow.{Bor}
use Rattle.cases.specs.declared.blocks.BlockFault.{BlockFault}
use Rattle.cases.specs.declared.blocks.BlockFault.TheVariants.{NoEnd, NoMemory}

-- the texts of lines
abbrev pub texts : List (Bor (List ℕ)) → List (List ℕ)
texts lines = map (λ l. l.now) lines

-- the texts of the lines of blocks
abbrev pub block_texts : List (Bor (List (Bor (List ℕ)))) → List (List (List ℕ))
block_texts blocks = map texts (map (λ b. b.now) blocks)

-- the lines of blocks, each block followed by the line end
abbrev pub with_ends : List (List (List ℕ)) → List (List ℕ)
with_ends [] = []
with_ends (block ∷ blocks) = block ++ (codes "end" ∷ with_ends blocks)

-- no block has a line end
abbrev pub NoEnds : List (List (List ℕ)) → Type 0
NoEnds blocks = All (λ block. All (λ line. line ≢ codes "end") block) blocks

-- lines are parted into the lines of blocks, each block without a line end and followed by one; or the last is no line end; or memory is wanting
abbrev pub Parted : {Z : Type 0} → List (List ℕ) → Result (Vec (Bor (List (Bor (List ℕ)))) Z) BlockFault → Type 0
Parted lines (Ok v) = (lines ≡ with_ends (block_texts (vec_items v))) × NoEnds (block_texts (vec_items v))
Parted lines (Err NoEnd) = (front : List (List ℕ)) → lines ≢ front ++ (codes "end" ∷ [])
Parted lines (Err NoMemory) = ⊤

-- a refusal in plain words
abbrev pub fault_text : BlockFault → List ℕ
fault_text NoEnd = codes "the last case has no end"
fault_text NoMemory = codes "memory allocation failed"
