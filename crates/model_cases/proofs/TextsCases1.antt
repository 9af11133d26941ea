-- Cases of the model, written by tools/model_cases.py: what the sectors of texts say.
use Rattle.std.proofs.Common.{◌≡◌, ◌∷◌, [], Ok, Err, codes, replicate, refl}
use Rattle.lilo_model.specs.BootSector.{BadTable, BadLine}
use Rattle.lilo_model.specs.Bytes.{number16, number32, is_zero}
use Rattle.lilo_model.specs.DefaultLine.{Empty, Once, Kept}
use Rattle.lilo_model.specs.LineSector.{is_line, line_of, line_at, line_bytes, is_same_line}
use Rattle.lilo_model.specs.Options.{options_at, extra_at}
use Rattle.model_cases.specs.Sparse.{hex, piece, file}

-- no middle text
pub texts_no_middle_text : options_at (file 512 []) ≡ Ok []
unfolding number16 number32 is_zero options_at extra_at is_line line_of line_at line_bytes is_same_line
texts_no_middle_text = refl

-- a middle text
pub texts_a_middle_text : options_at (file 512 (piece 0 (hex 1 0x0c) ∷ piece 8 (codes " ro root=301") ∷ [])) ≡ Ok (codes " ro root=301")
unfolding number16 number32 is_zero options_at extra_at is_line line_of line_at line_bytes is_same_line
texts_a_middle_text = refl

-- something after the text
pub texts_something_after_the_text : options_at (file 512 (piece 0 (hex 1 0x03) ∷ piece 8 (codes " ro root") ∷ [])) ≡ Ok (codes " ro")
unfolding number16 number32 is_zero options_at extra_at is_line line_of line_at line_bytes is_same_line
texts_something_after_the_text = refl

-- 255 bytes
pub texts_255_bytes : options_at (file 512 (piece 0 (hex 1 0xff) ∷ piece 8 (replicate 255 120) ∷ [])) ≡ Ok (replicate 255 120)
unfolding number16 number32 is_zero options_at extra_at is_line line_of line_at line_bytes is_same_line
texts_255_bytes = refl

-- 256 bytes
pub texts_256_bytes : options_at (file 512 (piece 1 (hex 263 0x0100000000000078787878787878787878787878787878787878787878787878787878787878787878787878787878787878787878787878787878787878787878787878787878787878787878787878787878787878787878787878787878787878787878787878787878787878787878787878787878787878787878787878787878787878787878787878787878787878787878787878787878787878787878787878787878787878787878787878787878787878787878787878787878787878787878787878787878787878787878787878787878787878787878787878787878787878787878787878787878787878787878787878787878787878787878787878787878) ∷ [])) ≡ Err (BadTable 255)
unfolding number16 number32 is_zero options_at extra_at is_line line_of line_at line_bytes is_same_line
texts_256_bytes = refl

-- no texts
pub texts_no_texts : extra_at (file 512 []) ≡ Ok (record { fallback = []; password = [] })
unfolding number16 number32 is_zero options_at extra_at is_line line_of line_at line_bytes is_same_line
texts_no_texts = refl

-- a fallback
pub texts_a_fallback : extra_at (file 512 (piece 0 (hex 9 0x050000006c696e7578) ∷ [])) ≡ Ok (record { fallback = (codes "linux"); password = [] })
unfolding number16 number32 is_zero options_at extra_at is_line line_of line_at line_bytes is_same_line
texts_a_fallback = refl

-- a password
pub texts_a_password : extra_at (file 512 (piece 2 (hex 1 0x03) ∷ piece 480 (codes "tux") ∷ [])) ≡ Ok (record { fallback = []; password = (codes "tux") })
unfolding number16 number32 is_zero options_at extra_at is_line line_of line_at line_bytes is_same_line
texts_a_password = refl

-- both
pub texts_both : extra_at (file 512 (piece 0 (hex 9 0x050003006c696e7578) ∷ piece 480 (codes "tux") ∷ [])) ≡ Ok (record { fallback = (codes "linux"); password = (codes "tux") })
unfolding number16 number32 is_zero options_at extra_at is_line line_of line_at line_bytes is_same_line
texts_both = refl

-- a fallback of 255 bytes and a password of 31
pub texts_a_fallback_of_255_bytes_and_a_password_of_31 : extra_at (file 512 (piece 0 (hex 259 0xff001f00666666666666666666666666666666666666666666666666666666666666666666666666666666666666666666666666666666666666666666666666666666666666666666666666666666666666666666666666666666666666666666666666666666666666666666666666666666666666666666666666666666666666666666666666666666666666666666666666666666666666666666666666666666666666666666666666666666666666666666666666666666666666666666666666666666666666666666666666666666666666666666666666666666666666666666666666666666666666666666666666666666666666666666666666666666) ∷ piece 480 (replicate 31 112) ∷ [])) ≡ Ok (record { fallback = (replicate 255 102); password = (replicate 31 112) })
unfolding number16 number32 is_zero options_at extra_at is_line line_of line_at line_bytes is_same_line
texts_a_fallback_of_255_bytes_and_a_password_of_31 = refl

-- a fallback of 256 bytes
pub texts_a_fallback_of_256_bytes : extra_at (file 512 (piece 1 (hex 1 0x01) ∷ [])) ≡ Err (BadTable 255)
unfolding number16 number32 is_zero options_at extra_at is_line line_of line_at line_bytes is_same_line
texts_a_fallback_of_256_bytes = refl

-- a password of 32 bytes
pub texts_a_password_of_32_bytes : extra_at (file 512 (piece 2 (codes " ") ∷ [])) ≡ Err (BadTable 255)
unfolding number16 number32 is_zero options_at extra_at is_line line_of line_at line_bytes is_same_line
texts_a_password_of_32_bytes = refl

-- no line
pub texts_no_line : line_at (file 512 (piece 0 (codes "LINE") ∷ [])) ≡ Ok Empty
unfolding number16 number32 is_zero options_at extra_at is_line line_of line_at line_bytes is_same_line
texts_no_line = refl

-- a line for one boot
pub texts_a_line_for_one_boot : line_at (file 512 (piece 0 (hex 13 0x4c494e45010005006c696e7578) ∷ [])) ≡ Ok (Once (codes "linux"))
unfolding number16 number32 is_zero options_at extra_at is_line line_of line_at line_bytes is_same_line
texts_a_line_for_one_boot = refl

-- a kept line
pub texts_a_kept_line : line_at (file 512 (piece 0 (hex 13 0x4c494e45020005006c696e7578) ∷ [])) ≡ Ok (Kept (codes "linux"))
unfolding number16 number32 is_zero options_at extra_at is_line line_of line_at line_bytes is_same_line
texts_a_kept_line = refl

-- something after the line
pub texts_something_after_the_line : line_at (file 512 (piece 0 (hex 13 0x4c494e45020002006c696e7578) ∷ [])) ≡ Ok (Kept (codes "li"))
unfolding number16 number32 is_zero options_at extra_at is_line line_of line_at line_bytes is_same_line
texts_something_after_the_line = refl

-- state 3
pub texts_state_3 : line_at (file 512 (piece 0 (hex 13 0x4c494e45030005006c696e7578) ∷ [])) ≡ Err BadLine
unfolding number16 number32 is_zero options_at extra_at is_line line_of line_at line_bytes is_same_line
texts_state_3 = refl

-- a length without a line
pub texts_a_length_without_a_line : line_at (file 512 (piece 0 (hex 13 0x4c494e45000005006c696e7578) ∷ [])) ≡ Err BadLine
unfolding number16 number32 is_zero options_at extra_at is_line line_of line_at line_bytes is_same_line
texts_a_length_without_a_line = refl

-- a line of no bytes for one boot
pub texts_a_line_of_no_bytes_for_one_boot : line_at (file 512 (piece 0 (hex 5 0x4c494e4501) ∷ [])) ≡ Err BadLine
unfolding number16 number32 is_zero options_at extra_at is_line line_of line_at line_bytes is_same_line
texts_a_line_of_no_bytes_for_one_boot = refl

-- a kept line of no bytes
pub texts_a_kept_line_of_no_bytes : line_at (file 512 (piece 0 (hex 5 0x4c494e4502) ∷ [])) ≡ Err BadLine
unfolding number16 number32 is_zero options_at extra_at is_line line_of line_at line_bytes is_same_line
texts_a_kept_line_of_no_bytes = refl

-- 255 bytes
pub texts_255_bytes_2 : line_at (file 512 (piece 0 (hex 263 0x4c494e450100ff00787878787878787878787878787878787878787878787878787878787878787878787878787878787878787878787878787878787878787878787878787878787878787878787878787878787878787878787878787878787878787878787878787878787878787878787878787878787878787878787878787878787878787878787878787878787878787878787878787878787878787878787878787878787878787878787878787878787878787878787878787878787878787878787878787878787878787878787878787878787878787878787878787878787878787878787878787878787878787878787878787878787878787878787878787878) ∷ [])) ≡ Ok (Once (replicate 255 120))
unfolding number16 number32 is_zero options_at extra_at is_line line_of line_at line_bytes is_same_line
texts_255_bytes_2 = refl

-- 256 bytes
pub texts_256_bytes_2 : line_at (file 512 (piece 0 (hex 264 0x4c494e450100000178787878787878787878787878787878787878787878787878787878787878787878787878787878787878787878787878787878787878787878787878787878787878787878787878787878787878787878787878787878787878787878787878787878787878787878787878787878787878787878787878787878787878787878787878787878787878787878787878787878787878787878787878787878787878787878787878787878787878787878787878787878787878787878787878787878787878787878787878787878787878787878787878787878787878787878787878787878787878787878787878787878787878787878787878787878) ∷ [])) ≡ Err BadLine
unfolding number16 number32 is_zero options_at extra_at is_line line_of line_at line_bytes is_same_line
texts_256_bytes_2 = refl

-- another name
pub texts_another_name : line_at (file 512 (piece 0 (codes "line") ∷ [])) ≡ Err BadLine
unfolding number16 number32 is_zero options_at extra_at is_line line_of line_at line_bytes is_same_line
texts_another_name = refl

-- zeros
pub texts_zeros : line_at (file 512 []) ≡ Err BadLine
unfolding number16 number32 is_zero options_at extra_at is_line line_of line_at line_bytes is_same_line
texts_zeros = refl

-- state 256
pub texts_state_256 : line_at (file 512 (piece 0 (hex 6 0x4c494e450001) ∷ [])) ≡ Err BadLine
unfolding number16 number32 is_zero options_at extra_at is_line line_of line_at line_bytes is_same_line
texts_state_256 = refl
