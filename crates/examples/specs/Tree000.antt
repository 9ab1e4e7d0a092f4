-- Rules: the index of source document 000 as document 01 gives it, byte by byte: k = 1, three levels, records 1 to 8, F 3,584. Assumes nothing.
use Rattle.std.specs.Prelude.{List, [], ◌∷◌, ◌++◌, ℕ, ◌-◌, length, replicate}
use Rattle.octets.specs.Bytes.{to_le16, to_le32, to_be32}
use Rattle.idx_page.specs.Header.{no_page}

-- a page: the bytes, and zeros behind them up to 512
unfoldable pub padded : List ℕ → List ℕ
padded bytes = bytes ++ replicate (512 - length bytes) 0

-- an entry: a key of one byte, and its number
unfoldable pub entry : ℕ → ℕ → List ℕ
entry key number = key ∷ to_be32 number

-- a page: attribute, count, left, right and entries
unfoldable pub page : ℕ → ℕ → ℕ → ℕ → List ℕ → List ℕ
page attribute count left right entries = padded (to_le16 attribute ++ (to_le16 count ++ (to_le32 left ++ (to_le32 right ++ entries))))

-- "root 512 (F, H), 1,024 (C, F), 1,536 (H), leaves 2,048 (A B C), 2,560 (D E F), 3,072 (G H), records 1 to 8, F 3,584"
unfoldable pub tree000 : List ℕ
tree000 =
    padded (to_le32 512 ++ (to_le32 no_page ++ (to_le32 3584 ++ (to_le16 1 ++ (1 ∷ [])))))
    ++ (page 1 2 no_page no_page (entry 0x46 1024 ++ entry 0x48 1536)
    ++ (page 0 2 no_page 1536 (entry 0x43 2048 ++ entry 0x46 2560)
    ++ (page 0 1 1024 no_page (entry 0x48 3072)
    ++ (page 2 3 no_page 2560 (entry 0x41 1 ++ (entry 0x42 2 ++ entry 0x43 3))
    ++ (page 2 3 2048 3072 (entry 0x44 4 ++ (entry 0x45 5 ++ entry 0x46 6)) ++ page 2 2 2560 no_page (entry 0x47 7 ++ entry 0x48 8))))))
