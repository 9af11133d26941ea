-- Cases of surveys of Minix volumes, written by tools/survey_cases.py.
use Rattle.std.proofs.Common.{◌≡◌, [], ◌∷◌, Ok, Err, true, false, codes, refl}
use Rattle.lilo_model.specs.Bytes.{number16, number32, is_zero}
use Rattle.lilo_model.specs.MinixEntries.{entry_of, entry_at, find_entry, entries_at, is_dots}
use Rattle.lilo_model.specs.MinixFind.{NotDirectory, Zone}
use Rattle.lilo_model.specs.MinixLayout.{kind_of, super_of, super_checks, super_in, super_at, v1_inode, v2_inode, inode_of, inode_at, inode_place, V1Short, V2Short, V2Long}
use Rattle.lilo_model.specs.MinixNames.{zone_number, block, content, entry, first_named, lookup, reached, thing, names, names_in}
use Rattle.lilo_model.specs.MinixParts.{bit, with_bit, parts_of, number_in, follow, pointer_by, inside, follow_at, zone_at, block_at, content_at, ZoneOutside}
use Rattle.lilo_model.specs.MinixSurvey.{was_reached, with_inode, survey_walk, owner, names_of, has_name, judge, judged, survey_of, is_indirect, Crossed, Unmarked, BadLink, FewLinks, TooDeep, Tree}
use Rattle.model_cases.specs.Sparse.{file, piece, hex}
use Rattle.model_cases.specs.Surveys.{super_with, volume_by, node, zone_with, survey_found, found, owned}

-- entry to a free inode in version 2 with short names
pub minix_survey_entry_to_a_free_inode_in_version_2_with_short_names : survey_found (volume_by (super_with V2Short 16 48 1 1 5) (node 16877 4 96 (5 ∷ 0 ∷ 0 ∷ 0 ∷ 0 ∷ 0 ∷ 0 ∷ 0 ∷ 0 ∷ 0 ∷ []) ∷ node 16877 3 64 (6 ∷ 0 ∷ 0 ∷ 0 ∷ 0 ∷ 0 ∷ 0 ∷ 0 ∷ 0 ∷ 0 ∷ []) ∷ node 33188 1 4 (7 ∷ 0 ∷ 0 ∷ 0 ∷ 0 ∷ 0 ∷ 0 ∷ 0 ∷ 0 ∷ 0 ∷ []) ∷ node 16877 2 64 (8 ∷ 0 ∷ 0 ∷ 0 ∷ 0 ∷ 0 ∷ 0 ∷ 0 ∷ 0 ∷ 0 ∷ []) ∷ node 33188 1 2000 (9 ∷ 10 ∷ 0 ∷ 0 ∷ 0 ∷ 0 ∷ 0 ∷ 0 ∷ 0 ∷ 0 ∷ []) ∷ node 41471 1 3 (11 ∷ 0 ∷ 0 ∷ 0 ∷ 0 ∷ 0 ∷ 0 ∷ 0 ∷ 0 ∷ 0 ∷ []) ∷ node 33188 1 1 (12 ∷ 0 ∷ 0 ∷ 0 ∷ 0 ∷ 0 ∷ 0 ∷ 0 ∷ 0 ∷ 0 ∷ []) ∷ node 33188 1 0 (0 ∷ 0 ∷ 0 ∷ 0 ∷ 0 ∷ 0 ∷ 0 ∷ 0 ∷ 0 ∷ 0 ∷ []) ∷ node 16877 2 32 (13 ∷ 0 ∷ 0 ∷ 0 ∷ 0 ∷ 0 ∷ 0 ∷ 0 ∷ 0 ∷ 0 ∷ []) ∷ []) (zone_with 5 (file 1024 (piece 0 (hex 3 0x01002e) ∷ piece 16 (hex 4 0x01002e2e) ∷ piece 32 (hex 3 0x020070) ∷ piece 48 (hex 6 0x100066726565) ∷ piece 64 (hex 3 0x06006c) ∷ piece 80 (hex 3 0x090072) ∷ [])) ∷ zone_with 6 (file 1024 (piece 0 (hex 3 0x02002e) ∷ piece 16 (hex 4 0x01002e2e) ∷ piece 32 (hex 3 0x040071) ∷ piece 48 (hex 3 0x050062) ∷ [])) ∷ zone_with 8 (file 1024 (piece 0 (hex 3 0x04002e) ∷ piece 16 (hex 4 0x02002e2e) ∷ piece 32 (hex 3 0x070063) ∷ piece 48 (hex 3 0x080064) ∷ [])) ∷ zone_with 13 (file 1024 (piece 0 (hex 3 0x09002e) ∷ piece 16 (hex 4 0x01002e2e) ∷ [])) ∷ []) (1 ∷ 2 ∷ 3 ∷ 4 ∷ 5 ∷ 6 ∷ 7 ∷ 8 ∷ 9 ∷ []) (5 ∷ 6 ∷ 7 ∷ 8 ∷ 9 ∷ 10 ∷ 11 ∷ 12 ∷ 13 ∷ [])) ≡ Err (BadLink 1 3)
unfolding number16 number32 is_zero kind_of super_of super_checks super_in super_at v1_inode v2_inode inode_of inode_at inode_place bit with_bit parts_of number_in follow pointer_by inside follow_at zone_at block_at content_at entry_of entry_at find_entry entries_at is_dots zone_number block content entry first_named lookup reached thing names names_in was_reached with_inode survey_walk owner names_of has_name judge judged survey_of is_indirect
minix_survey_entry_to_a_free_inode_in_version_2_with_short_names = refl

-- a sound volume of version 2 with long names
pub minix_survey_a_sound_volume_of_version_2_with_long_names : survey_found (volume_by (super_with V2Long 16 48 1 1 5) (node 16877 4 192 (5 ∷ 0 ∷ 0 ∷ 0 ∷ 0 ∷ 0 ∷ 0 ∷ 0 ∷ 0 ∷ 0 ∷ []) ∷ node 16877 3 128 (6 ∷ 0 ∷ 0 ∷ 0 ∷ 0 ∷ 0 ∷ 0 ∷ 0 ∷ 0 ∷ 0 ∷ []) ∷ node 33188 1 4 (7 ∷ 0 ∷ 0 ∷ 0 ∷ 0 ∷ 0 ∷ 0 ∷ 0 ∷ 0 ∷ 0 ∷ []) ∷ node 16877 2 128 (8 ∷ 0 ∷ 0 ∷ 0 ∷ 0 ∷ 0 ∷ 0 ∷ 0 ∷ 0 ∷ 0 ∷ []) ∷ node 33188 1 2000 (9 ∷ 10 ∷ 0 ∷ 0 ∷ 0 ∷ 0 ∷ 0 ∷ 0 ∷ 0 ∷ 0 ∷ []) ∷ node 41471 1 3 (11 ∷ 0 ∷ 0 ∷ 0 ∷ 0 ∷ 0 ∷ 0 ∷ 0 ∷ 0 ∷ 0 ∷ []) ∷ node 33188 1 1 (12 ∷ 0 ∷ 0 ∷ 0 ∷ 0 ∷ 0 ∷ 0 ∷ 0 ∷ 0 ∷ 0 ∷ []) ∷ node 33188 1 0 (0 ∷ 0 ∷ 0 ∷ 0 ∷ 0 ∷ 0 ∷ 0 ∷ 0 ∷ 0 ∷ 0 ∷ []) ∷ node 16877 2 64 (13 ∷ 0 ∷ 0 ∷ 0 ∷ 0 ∷ 0 ∷ 0 ∷ 0 ∷ 0 ∷ 0 ∷ []) ∷ []) (zone_with 5 (file 1024 (piece 0 (hex 3 0x01002e) ∷ piece 32 (hex 4 0x01002e2e) ∷ piece 64 (hex 3 0x020070) ∷ piece 96 (hex 3 0x030061) ∷ piece 128 (hex 3 0x06006c) ∷ piece 160 (hex 3 0x090072) ∷ [])) ∷ zone_with 6 (file 1024 (piece 0 (hex 3 0x02002e) ∷ piece 32 (hex 4 0x01002e2e) ∷ piece 64 (hex 3 0x040071) ∷ piece 96 (hex 3 0x050062) ∷ [])) ∷ zone_with 8 (file 1024 (piece 0 (hex 3 0x04002e) ∷ piece 32 (hex 4 0x02002e2e) ∷ piece 64 (hex 3 0x070063) ∷ piece 96 (hex 3 0x080064) ∷ [])) ∷ zone_with 13 (file 1024 (piece 0 (hex 3 0x09002e) ∷ piece 32 (hex 4 0x01002e2e) ∷ [])) ∷ []) (1 ∷ 2 ∷ 3 ∷ 4 ∷ 5 ∷ 6 ∷ 7 ∷ 8 ∷ 9 ∷ []) (5 ∷ 6 ∷ 7 ∷ 8 ∷ 9 ∷ 10 ∷ 11 ∷ 12 ∷ 13 ∷ [])) ≡ Ok (found (owned 5 1 false ∷ owned 6 2 false ∷ owned 7 3 false ∷ owned 8 4 false ∷ owned 9 5 false ∷ owned 10 5 false ∷ owned 11 6 false ∷ owned 12 7 false ∷ owned 13 9 false ∷ []) (0 ∷ 1 ∷ 1 ∷ 1 ∷ 1 ∷ 1 ∷ 1 ∷ 1 ∷ 1 ∷ 0 ∷ 0 ∷ 0 ∷ 0 ∷ 0 ∷ 0 ∷ 0 ∷ []))
unfolding number16 number32 is_zero kind_of super_of super_checks super_in super_at v1_inode v2_inode inode_of inode_at inode_place bit with_bit parts_of number_in follow pointer_by inside follow_at zone_at block_at content_at entry_of entry_at find_entry entries_at is_dots zone_number block content entry first_named lookup reached thing names names_in was_reached with_inode survey_walk owner names_of has_name judge judged survey_of is_indirect
minix_survey_a_sound_volume_of_version_2_with_long_names = refl

-- a sound volume of version 2 with long names, with an indirect zone
pub minix_survey_a_sound_volume_of_version_2_with_long_names_with_an_indirect_zone : survey_found (volume_by (super_with V2Long 16 48 1 1 5) (node 16877 4 192 (5 ∷ 0 ∷ 0 ∷ 0 ∷ 0 ∷ 0 ∷ 0 ∷ 0 ∷ 0 ∷ 0 ∷ []) ∷ node 16877 3 128 (6 ∷ 0 ∷ 0 ∷ 0 ∷ 0 ∷ 0 ∷ 0 ∷ 0 ∷ 0 ∷ 0 ∷ []) ∷ node 33188 1 4 (7 ∷ 0 ∷ 0 ∷ 0 ∷ 0 ∷ 0 ∷ 0 ∷ 0 ∷ 0 ∷ 0 ∷ []) ∷ node 16877 2 128 (8 ∷ 0 ∷ 0 ∷ 0 ∷ 0 ∷ 0 ∷ 0 ∷ 0 ∷ 0 ∷ 0 ∷ []) ∷ node 33188 1 2000 (9 ∷ 10 ∷ 0 ∷ 0 ∷ 0 ∷ 0 ∷ 0 ∷ 0 ∷ 0 ∷ 0 ∷ []) ∷ node 41471 1 3 (11 ∷ 0 ∷ 0 ∷ 0 ∷ 0 ∷ 0 ∷ 0 ∷ 0 ∷ 0 ∷ 0 ∷ []) ∷ node 33188 1 1 (12 ∷ 0 ∷ 0 ∷ 0 ∷ 0 ∷ 0 ∷ 0 ∷ 0 ∷ 0 ∷ 0 ∷ []) ∷ node 33188 1 9216 (13 ∷ 14 ∷ 15 ∷ 16 ∷ 17 ∷ 18 ∷ 19 ∷ 22 ∷ 0 ∷ 0 ∷ []) ∷ node 16877 2 64 (23 ∷ 0 ∷ 0 ∷ 0 ∷ 0 ∷ 0 ∷ 0 ∷ 0 ∷ 0 ∷ 0 ∷ []) ∷ []) (zone_with 5 (file 1024 (piece 0 (hex 3 0x01002e) ∷ piece 32 (hex 4 0x01002e2e) ∷ piece 64 (hex 3 0x020070) ∷ piece 96 (hex 3 0x030061) ∷ piece 128 (hex 3 0x06006c) ∷ piece 160 (hex 3 0x090072) ∷ [])) ∷ zone_with 6 (file 1024 (piece 0 (hex 3 0x02002e) ∷ piece 32 (hex 4 0x01002e2e) ∷ piece 64 (hex 3 0x040071) ∷ piece 96 (hex 3 0x050062) ∷ [])) ∷ zone_with 8 (file 1024 (piece 0 (hex 3 0x04002e) ∷ piece 32 (hex 4 0x02002e2e) ∷ piece 64 (hex 3 0x070063) ∷ piece 96 (hex 5 0x0800626967) ∷ [])) ∷ zone_with 22 (file 1024 (piece 0 (hex 5 0x1400000015) ∷ [])) ∷ zone_with 23 (file 1024 (piece 0 (hex 3 0x09002e) ∷ piece 32 (hex 4 0x01002e2e) ∷ [])) ∷ []) (1 ∷ 2 ∷ 3 ∷ 4 ∷ 5 ∷ 6 ∷ 7 ∷ 8 ∷ 9 ∷ []) (5 ∷ 6 ∷ 7 ∷ 8 ∷ 9 ∷ 10 ∷ 11 ∷ 12 ∷ 13 ∷ 14 ∷ 15 ∷ 16 ∷ 17 ∷ 18 ∷ 19 ∷ 20 ∷ 21 ∷ 22 ∷ 23 ∷ [])) ≡ Ok (found (owned 5 1 false ∷ owned 6 2 false ∷ owned 7 3 false ∷ owned 8 4 false ∷ owned 9 5 false ∷ owned 10 5 false ∷ owned 11 6 false ∷ owned 12 7 false ∷ owned 13 8 false ∷ owned 14 8 false ∷ owned 15 8 false ∷ owned 16 8 false ∷ owned 17 8 false ∷ owned 18 8 false ∷ owned 19 8 false ∷ owned 20 8 false ∷ owned 21 8 false ∷ owned 22 8 true ∷ owned 23 9 false ∷ []) (0 ∷ 1 ∷ 1 ∷ 1 ∷ 1 ∷ 1 ∷ 1 ∷ 1 ∷ 1 ∷ 0 ∷ 0 ∷ 0 ∷ 0 ∷ 0 ∷ 0 ∷ 0 ∷ []))
unfolding number16 number32 is_zero kind_of super_of super_checks super_in super_at v1_inode v2_inode inode_of inode_at inode_place bit with_bit parts_of number_in follow pointer_by inside follow_at zone_at block_at content_at entry_of entry_at find_entry entries_at is_dots zone_number block content entry first_named lookup reached thing names names_in was_reached with_inode survey_walk owner names_of has_name judge judged survey_of is_indirect
minix_survey_a_sound_volume_of_version_2_with_long_names_with_an_indirect_zone = refl

-- zone unmarked in version 2 with long names
pub minix_survey_zone_unmarked_in_version_2_with_long_names : survey_found (volume_by (super_with V2Long 16 48 1 1 5) (node 16877 4 192 (5 ∷ 0 ∷ 0 ∷ 0 ∷ 0 ∷ 0 ∷ 0 ∷ 0 ∷ 0 ∷ 0 ∷ []) ∷ node 16877 3 128 (6 ∷ 0 ∷ 0 ∷ 0 ∷ 0 ∷ 0 ∷ 0 ∷ 0 ∷ 0 ∷ 0 ∷ []) ∷ node 33188 1 4 (7 ∷ 0 ∷ 0 ∷ 0 ∷ 0 ∷ 0 ∷ 0 ∷ 0 ∷ 0 ∷ 0 ∷ []) ∷ node 16877 2 128 (8 ∷ 0 ∷ 0 ∷ 0 ∷ 0 ∷ 0 ∷ 0 ∷ 0 ∷ 0 ∷ 0 ∷ []) ∷ node 33188 1 2000 (9 ∷ 10 ∷ 0 ∷ 0 ∷ 0 ∷ 0 ∷ 0 ∷ 0 ∷ 0 ∷ 0 ∷ []) ∷ node 41471 1 3 (11 ∷ 0 ∷ 0 ∷ 0 ∷ 0 ∷ 0 ∷ 0 ∷ 0 ∷ 0 ∷ 0 ∷ []) ∷ node 33188 1 1 (12 ∷ 0 ∷ 0 ∷ 0 ∷ 0 ∷ 0 ∷ 0 ∷ 0 ∷ 0 ∷ 0 ∷ []) ∷ node 33188 1 0 (0 ∷ 0 ∷ 0 ∷ 0 ∷ 0 ∷ 0 ∷ 0 ∷ 0 ∷ 0 ∷ 0 ∷ []) ∷ node 16877 2 64 (13 ∷ 0 ∷ 0 ∷ 0 ∷ 0 ∷ 0 ∷ 0 ∷ 0 ∷ 0 ∷ 0 ∷ []) ∷ []) (zone_with 5 (file 1024 (piece 0 (hex 3 0x01002e) ∷ piece 32 (hex 4 0x01002e2e) ∷ piece 64 (hex 3 0x020070) ∷ piece 96 (hex 3 0x030061) ∷ piece 128 (hex 3 0x06006c) ∷ piece 160 (hex 3 0x090072) ∷ [])) ∷ zone_with 6 (file 1024 (piece 0 (hex 3 0x02002e) ∷ piece 32 (hex 4 0x01002e2e) ∷ piece 64 (hex 3 0x040071) ∷ piece 96 (hex 3 0x050062) ∷ [])) ∷ zone_with 8 (file 1024 (piece 0 (hex 3 0x04002e) ∷ piece 32 (hex 4 0x02002e2e) ∷ piece 64 (hex 3 0x070063) ∷ piece 96 (hex 3 0x080064) ∷ [])) ∷ zone_with 13 (file 1024 (piece 0 (hex 3 0x09002e) ∷ piece 32 (hex 4 0x01002e2e) ∷ [])) ∷ []) (1 ∷ 2 ∷ 3 ∷ 4 ∷ 5 ∷ 6 ∷ 7 ∷ 8 ∷ 9 ∷ []) (5 ∷ 6 ∷ 7 ∷ 8 ∷ 9 ∷ 10 ∷ 11 ∷ 12 ∷ [])) ≡ Err (Unmarked 13)
unfolding number16 number32 is_zero kind_of super_of super_checks super_in super_at v1_inode v2_inode inode_of inode_at inode_place bit with_bit parts_of number_in follow pointer_by inside follow_at zone_at block_at content_at entry_of entry_at find_entry entries_at is_dots zone_number block content entry first_named lookup reached thing names names_in was_reached with_inode survey_walk owner names_of has_name judge judged survey_of is_indirect
minix_survey_zone_unmarked_in_version_2_with_long_names = refl

-- root is a file in version 2 with long names
pub minix_survey_root_is_a_file_in_version_2_with_long_names : survey_found (volume_by (super_with V2Long 16 48 1 1 5) (node 33188 4 192 (5 ∷ 0 ∷ 0 ∷ 0 ∷ 0 ∷ 0 ∷ 0 ∷ 0 ∷ 0 ∷ 0 ∷ []) ∷ node 16877 3 128 (6 ∷ 0 ∷ 0 ∷ 0 ∷ 0 ∷ 0 ∷ 0 ∷ 0 ∷ 0 ∷ 0 ∷ []) ∷ node 33188 1 4 (7 ∷ 0 ∷ 0 ∷ 0 ∷ 0 ∷ 0 ∷ 0 ∷ 0 ∷ 0 ∷ 0 ∷ []) ∷ node 16877 2 128 (8 ∷ 0 ∷ 0 ∷ 0 ∷ 0 ∷ 0 ∷ 0 ∷ 0 ∷ 0 ∷ 0 ∷ []) ∷ node 33188 1 2000 (9 ∷ 10 ∷ 0 ∷ 0 ∷ 0 ∷ 0 ∷ 0 ∷ 0 ∷ 0 ∷ 0 ∷ []) ∷ node 41471 1 3 (11 ∷ 0 ∷ 0 ∷ 0 ∷ 0 ∷ 0 ∷ 0 ∷ 0 ∷ 0 ∷ 0 ∷ []) ∷ node 33188 1 1 (12 ∷ 0 ∷ 0 ∷ 0 ∷ 0 ∷ 0 ∷ 0 ∷ 0 ∷ 0 ∷ 0 ∷ []) ∷ node 33188 1 0 (0 ∷ 0 ∷ 0 ∷ 0 ∷ 0 ∷ 0 ∷ 0 ∷ 0 ∷ 0 ∷ 0 ∷ []) ∷ node 16877 2 64 (13 ∷ 0 ∷ 0 ∷ 0 ∷ 0 ∷ 0 ∷ 0 ∷ 0 ∷ 0 ∷ 0 ∷ []) ∷ []) (zone_with 6 (file 1024 (piece 0 (hex 3 0x02002e) ∷ piece 32 (hex 4 0x01002e2e) ∷ piece 64 (hex 3 0x040071) ∷ piece 96 (hex 3 0x050062) ∷ [])) ∷ zone_with 8 (file 1024 (piece 0 (hex 3 0x04002e) ∷ piece 32 (hex 4 0x02002e2e) ∷ piece 64 (hex 3 0x070063) ∷ piece 96 (hex 3 0x080064) ∷ [])) ∷ zone_with 13 (file 1024 (piece 0 (hex 3 0x09002e) ∷ piece 32 (hex 4 0x01002e2e) ∷ [])) ∷ []) (1 ∷ 2 ∷ 3 ∷ 4 ∷ 5 ∷ 6 ∷ 7 ∷ 8 ∷ 9 ∷ []) (5 ∷ 6 ∷ 7 ∷ 8 ∷ 9 ∷ 10 ∷ 11 ∷ 12 ∷ 13 ∷ [])) ≡ Err (Tree (NotDirectory 0))
unfolding number16 number32 is_zero kind_of super_of super_checks super_in super_at v1_inode v2_inode inode_of inode_at inode_place bit with_bit parts_of number_in follow pointer_by inside follow_at zone_at block_at content_at entry_of entry_at find_entry entries_at is_dots zone_number block content entry first_named lookup reached thing names names_in was_reached with_inode survey_walk owner names_of has_name judge judged survey_of is_indirect
minix_survey_root_is_a_file_in_version_2_with_long_names = refl

-- one more name of a file in version 2 with long names
pub minix_survey_one_more_name_of_a_file_in_version_2_with_long_names : survey_found (volume_by (super_with V2Long 16 48 1 1 5) (node 16877 4 224 (5 ∷ 0 ∷ 0 ∷ 0 ∷ 0 ∷ 0 ∷ 0 ∷ 0 ∷ 0 ∷ 0 ∷ []) ∷ node 16877 3 128 (6 ∷ 0 ∷ 0 ∷ 0 ∷ 0 ∷ 0 ∷ 0 ∷ 0 ∷ 0 ∷ 0 ∷ []) ∷ node 33188 1 4 (7 ∷ 0 ∷ 0 ∷ 0 ∷ 0 ∷ 0 ∷ 0 ∷ 0 ∷ 0 ∷ 0 ∷ []) ∷ node 16877 2 128 (8 ∷ 0 ∷ 0 ∷ 0 ∷ 0 ∷ 0 ∷ 0 ∷ 0 ∷ 0 ∷ 0 ∷ []) ∷ node 33188 1 2000 (9 ∷ 10 ∷ 0 ∷ 0 ∷ 0 ∷ 0 ∷ 0 ∷ 0 ∷ 0 ∷ 0 ∷ []) ∷ node 41471 1 3 (11 ∷ 0 ∷ 0 ∷ 0 ∷ 0 ∷ 0 ∷ 0 ∷ 0 ∷ 0 ∷ 0 ∷ []) ∷ node 33188 1 1 (12 ∷ 0 ∷ 0 ∷ 0 ∷ 0 ∷ 0 ∷ 0 ∷ 0 ∷ 0 ∷ 0 ∷ []) ∷ node 33188 1 0 (0 ∷ 0 ∷ 0 ∷ 0 ∷ 0 ∷ 0 ∷ 0 ∷ 0 ∷ 0 ∷ 0 ∷ []) ∷ node 16877 2 64 (13 ∷ 0 ∷ 0 ∷ 0 ∷ 0 ∷ 0 ∷ 0 ∷ 0 ∷ 0 ∷ 0 ∷ []) ∷ []) (zone_with 5 (file 1024 (piece 0 (hex 3 0x01002e) ∷ piece 32 (hex 4 0x01002e2e) ∷ piece 64 (hex 3 0x020070) ∷ piece 96 (hex 3 0x030061) ∷ piece 128 (hex 3 0x06006c) ∷ piece 160 (hex 3 0x090072) ∷ piece 192 (hex 6 0x03006d6f7265) ∷ [])) ∷ zone_with 6 (file 1024 (piece 0 (hex 3 0x02002e) ∷ piece 32 (hex 4 0x01002e2e) ∷ piece 64 (hex 3 0x040071) ∷ piece 96 (hex 3 0x050062) ∷ [])) ∷ zone_with 8 (file 1024 (piece 0 (hex 3 0x04002e) ∷ piece 32 (hex 4 0x02002e2e) ∷ piece 64 (hex 3 0x070063) ∷ piece 96 (hex 3 0x080064) ∷ [])) ∷ zone_with 13 (file 1024 (piece 0 (hex 3 0x09002e) ∷ piece 32 (hex 4 0x01002e2e) ∷ [])) ∷ []) (1 ∷ 2 ∷ 3 ∷ 4 ∷ 5 ∷ 6 ∷ 7 ∷ 8 ∷ 9 ∷ []) (5 ∷ 6 ∷ 7 ∷ 8 ∷ 9 ∷ 10 ∷ 11 ∷ 12 ∷ 13 ∷ [])) ≡ Err (FewLinks 3)
unfolding number16 number32 is_zero kind_of super_of super_checks super_in super_at v1_inode v2_inode inode_of inode_at inode_place bit with_bit parts_of number_in follow pointer_by inside follow_at zone_at block_at content_at entry_of entry_at find_entry entries_at is_dots zone_number block content entry first_named lookup reached thing names names_in was_reached with_inode survey_walk owner names_of has_name judge judged survey_of is_indirect
minix_survey_one_more_name_of_a_file_in_version_2_with_long_names = refl

-- hard link in version 2 with long names
pub minix_survey_hard_link_in_version_2_with_long_names : survey_found (volume_by (super_with V2Long 16 48 1 1 5) (node 16877 4 224 (5 ∷ 0 ∷ 0 ∷ 0 ∷ 0 ∷ 0 ∷ 0 ∷ 0 ∷ 0 ∷ 0 ∷ []) ∷ node 16877 3 128 (6 ∷ 0 ∷ 0 ∷ 0 ∷ 0 ∷ 0 ∷ 0 ∷ 0 ∷ 0 ∷ 0 ∷ []) ∷ node 33188 1 4 (7 ∷ 0 ∷ 0 ∷ 0 ∷ 0 ∷ 0 ∷ 0 ∷ 0 ∷ 0 ∷ 0 ∷ []) ∷ node 16877 2 128 (8 ∷ 0 ∷ 0 ∷ 0 ∷ 0 ∷ 0 ∷ 0 ∷ 0 ∷ 0 ∷ 0 ∷ []) ∷ node 33188 1 2000 (9 ∷ 10 ∷ 0 ∷ 0 ∷ 0 ∷ 0 ∷ 0 ∷ 0 ∷ 0 ∷ 0 ∷ []) ∷ node 41471 1 3 (11 ∷ 0 ∷ 0 ∷ 0 ∷ 0 ∷ 0 ∷ 0 ∷ 0 ∷ 0 ∷ 0 ∷ []) ∷ node 33188 1 1 (12 ∷ 0 ∷ 0 ∷ 0 ∷ 0 ∷ 0 ∷ 0 ∷ 0 ∷ 0 ∷ 0 ∷ []) ∷ node 33188 2 0 (0 ∷ 0 ∷ 0 ∷ 0 ∷ 0 ∷ 0 ∷ 0 ∷ 0 ∷ 0 ∷ 0 ∷ []) ∷ node 16877 2 64 (13 ∷ 0 ∷ 0 ∷ 0 ∷ 0 ∷ 0 ∷ 0 ∷ 0 ∷ 0 ∷ 0 ∷ []) ∷ []) (zone_with 5 (file 1024 (piece 0 (hex 3 0x01002e) ∷ piece 32 (hex 4 0x01002e2e) ∷ piece 64 (hex 3 0x020070) ∷ piece 96 (hex 3 0x030061) ∷ piece 128 (hex 3 0x06006c) ∷ piece 160 (hex 3 0x090072) ∷ piece 192 (hex 6 0x080068617264) ∷ [])) ∷ zone_with 6 (file 1024 (piece 0 (hex 3 0x02002e) ∷ piece 32 (hex 4 0x01002e2e) ∷ piece 64 (hex 3 0x040071) ∷ piece 96 (hex 3 0x050062) ∷ [])) ∷ zone_with 8 (file 1024 (piece 0 (hex 3 0x04002e) ∷ piece 32 (hex 4 0x02002e2e) ∷ piece 64 (hex 3 0x070063) ∷ piece 96 (hex 3 0x080064) ∷ [])) ∷ zone_with 13 (file 1024 (piece 0 (hex 3 0x09002e) ∷ piece 32 (hex 4 0x01002e2e) ∷ [])) ∷ []) (1 ∷ 2 ∷ 3 ∷ 4 ∷ 5 ∷ 6 ∷ 7 ∷ 8 ∷ 9 ∷ []) (5 ∷ 6 ∷ 7 ∷ 8 ∷ 9 ∷ 10 ∷ 11 ∷ 12 ∷ 13 ∷ [])) ≡ Ok (found (owned 5 1 false ∷ owned 6 2 false ∷ owned 7 3 false ∷ owned 8 4 false ∷ owned 9 5 false ∷ owned 10 5 false ∷ owned 11 6 false ∷ owned 12 7 false ∷ owned 13 9 false ∷ []) (0 ∷ 1 ∷ 1 ∷ 1 ∷ 1 ∷ 1 ∷ 1 ∷ 2 ∷ 1 ∷ 0 ∷ 0 ∷ 0 ∷ 0 ∷ 0 ∷ 0 ∷ 0 ∷ []))
unfolding number16 number32 is_zero kind_of super_of super_checks super_in super_at v1_inode v2_inode inode_of inode_at inode_place bit with_bit parts_of number_in follow pointer_by inside follow_at zone_at block_at content_at entry_of entry_at find_entry entries_at is_dots zone_number block content entry first_named lookup reached thing names names_in was_reached with_inode survey_walk owner names_of has_name judge judged survey_of is_indirect
minix_survey_hard_link_in_version_2_with_long_names = refl

-- hard link in version 2 with long names
pub minix_survey_hard_link_in_version_2_with_long_names_2 : survey_found (volume_by (super_with V2Long 16 48 1 1 5) (node 16877 4 192 (5 ∷ 0 ∷ 0 ∷ 0 ∷ 0 ∷ 0 ∷ 0 ∷ 0 ∷ 0 ∷ 0 ∷ []) ∷ node 16877 3 160 (6 ∷ 0 ∷ 0 ∷ 0 ∷ 0 ∷ 0 ∷ 0 ∷ 0 ∷ 0 ∷ 0 ∷ []) ∷ node 33188 1 4 (7 ∷ 0 ∷ 0 ∷ 0 ∷ 0 ∷ 0 ∷ 0 ∷ 0 ∷ 0 ∷ 0 ∷ []) ∷ node 16877 2 128 (8 ∷ 0 ∷ 0 ∷ 0 ∷ 0 ∷ 0 ∷ 0 ∷ 0 ∷ 0 ∷ 0 ∷ []) ∷ node 33188 2 2000 (9 ∷ 10 ∷ 0 ∷ 0 ∷ 0 ∷ 0 ∷ 0 ∷ 0 ∷ 0 ∷ 0 ∷ []) ∷ node 41471 1 3 (11 ∷ 0 ∷ 0 ∷ 0 ∷ 0 ∷ 0 ∷ 0 ∷ 0 ∷ 0 ∷ 0 ∷ []) ∷ node 33188 1 1 (12 ∷ 0 ∷ 0 ∷ 0 ∷ 0 ∷ 0 ∷ 0 ∷ 0 ∷ 0 ∷ 0 ∷ []) ∷ node 33188 1 0 (0 ∷ 0 ∷ 0 ∷ 0 ∷ 0 ∷ 0 ∷ 0 ∷ 0 ∷ 0 ∷ 0 ∷ []) ∷ node 16877 2 64 (13 ∷ 0 ∷ 0 ∷ 0 ∷ 0 ∷ 0 ∷ 0 ∷ 0 ∷ 0 ∷ 0 ∷ []) ∷ []) (zone_with 5 (file 1024 (piece 0 (hex 3 0x01002e) ∷ piece 32 (hex 4 0x01002e2e) ∷ piece 64 (hex 3 0x020070) ∷ piece 96 (hex 3 0x030061) ∷ piece 128 (hex 3 0x06006c) ∷ piece 160 (hex 3 0x090072) ∷ [])) ∷ zone_with 6 (file 1024 (piece 0 (hex 3 0x02002e) ∷ piece 32 (hex 4 0x01002e2e) ∷ piece 64 (hex 3 0x040071) ∷ piece 96 (hex 3 0x050062) ∷ piece 128 (hex 6 0x050068617264) ∷ [])) ∷ zone_with 8 (file 1024 (piece 0 (hex 3 0x04002e) ∷ piece 32 (hex 4 0x02002e2e) ∷ piece 64 (hex 3 0x070063) ∷ piece 96 (hex 3 0x080064) ∷ [])) ∷ zone_with 13 (file 1024 (piece 0 (hex 3 0x09002e) ∷ piece 32 (hex 4 0x01002e2e) ∷ [])) ∷ []) (1 ∷ 2 ∷ 3 ∷ 4 ∷ 5 ∷ 6 ∷ 7 ∷ 8 ∷ 9 ∷ []) (5 ∷ 6 ∷ 7 ∷ 8 ∷ 9 ∷ 10 ∷ 11 ∷ 12 ∷ 13 ∷ [])) ≡ Ok (found (owned 5 1 false ∷ owned 6 2 false ∷ owned 7 3 false ∷ owned 8 4 false ∷ owned 9 5 false ∷ owned 10 5 false ∷ owned 11 6 false ∷ owned 12 7 false ∷ owned 13 9 false ∷ []) (0 ∷ 1 ∷ 1 ∷ 1 ∷ 2 ∷ 1 ∷ 1 ∷ 1 ∷ 1 ∷ 0 ∷ 0 ∷ 0 ∷ 0 ∷ 0 ∷ 0 ∷ 0 ∷ []))
unfolding number16 number32 is_zero kind_of super_of super_checks super_in super_at v1_inode v2_inode inode_of inode_at inode_place bit with_bit parts_of number_in follow pointer_by inside follow_at zone_at block_at content_at entry_of entry_at find_entry entries_at is_dots zone_number block content entry first_named lookup reached thing names names_in was_reached with_inode survey_walk owner names_of has_name judge judged survey_of is_indirect
minix_survey_hard_link_in_version_2_with_long_names_2 = refl

-- name twice in version 2 with long names
pub minix_survey_name_twice_in_version_2_with_long_names : survey_found (volume_by (super_with V2Long 16 48 1 1 5) (node 16877 4 192 (5 ∷ 0 ∷ 0 ∷ 0 ∷ 0 ∷ 0 ∷ 0 ∷ 0 ∷ 0 ∷ 0 ∷ []) ∷ node 16877 3 128 (6 ∷ 0 ∷ 0 ∷ 0 ∷ 0 ∷ 0 ∷ 0 ∷ 0 ∷ 0 ∷ 0 ∷ []) ∷ node 33188 1 4 (7 ∷ 0 ∷ 0 ∷ 0 ∷ 0 ∷ 0 ∷ 0 ∷ 0 ∷ 0 ∷ 0 ∷ []) ∷ node 16877 2 128 (8 ∷ 0 ∷ 0 ∷ 0 ∷ 0 ∷ 0 ∷ 0 ∷ 0 ∷ 0 ∷ 0 ∷ []) ∷ node 33188 1 2000 (9 ∷ 10 ∷ 0 ∷ 0 ∷ 0 ∷ 0 ∷ 0 ∷ 0 ∷ 0 ∷ 0 ∷ []) ∷ node 41471 1 3 (11 ∷ 0 ∷ 0 ∷ 0 ∷ 0 ∷ 0 ∷ 0 ∷ 0 ∷ 0 ∷ 0 ∷ []) ∷ node 33188 1 1 (12 ∷ 0 ∷ 0 ∷ 0 ∷ 0 ∷ 0 ∷ 0 ∷ 0 ∷ 0 ∷ 0 ∷ []) ∷ node 33188 1 0 (0 ∷ 0 ∷ 0 ∷ 0 ∷ 0 ∷ 0 ∷ 0 ∷ 0 ∷ 0 ∷ 0 ∷ []) ∷ node 16877 2 96 (13 ∷ 0 ∷ 0 ∷ 0 ∷ 0 ∷ 0 ∷ 0 ∷ 0 ∷ 0 ∷ 0 ∷ []) ∷ []) (zone_with 5 (file 1024 (piece 0 (hex 3 0x01002e) ∷ piece 32 (hex 4 0x01002e2e) ∷ piece 64 (hex 3 0x020070) ∷ piece 96 (hex 3 0x030061) ∷ piece 128 (hex 3 0x06006c) ∷ piece 160 (hex 3 0x090072) ∷ [])) ∷ zone_with 6 (file 1024 (piece 0 (hex 3 0x02002e) ∷ piece 32 (hex 4 0x01002e2e) ∷ piece 64 (hex 3 0x040071) ∷ piece 96 (hex 3 0x050062) ∷ [])) ∷ zone_with 8 (file 1024 (piece 0 (hex 3 0x04002e) ∷ piece 32 (hex 4 0x02002e2e) ∷ piece 64 (hex 3 0x070063) ∷ piece 96 (hex 3 0x080064) ∷ [])) ∷ zone_with 13 (file 1024 (piece 0 (hex 3 0x09002e) ∷ piece 32 (hex 4 0x01002e2e) ∷ piece 64 (hex 3 0x08002e) ∷ [])) ∷ []) (1 ∷ 2 ∷ 3 ∷ 4 ∷ 5 ∷ 6 ∷ 7 ∷ 8 ∷ 9 ∷ []) (5 ∷ 6 ∷ 7 ∷ 8 ∷ 9 ∷ 10 ∷ 11 ∷ 12 ∷ 13 ∷ [])) ≡ Err (BadLink 9 2)
unfolding number16 number32 is_zero kind_of super_of super_checks super_in super_at v1_inode v2_inode inode_of inode_at inode_place bit with_bit parts_of number_in follow pointer_by inside follow_at zone_at block_at content_at entry_of entry_at find_entry entries_at is_dots zone_number block content entry first_named lookup reached thing names names_in was_reached with_inode survey_walk owner names_of has_name judge judged survey_of is_indirect
minix_survey_name_twice_in_version_2_with_long_names = refl

-- name twice in version 2 with long names
pub minix_survey_name_twice_in_version_2_with_long_names_2 : survey_found (volume_by (super_with V2Long 16 48 1 1 5) (node 16877 4 224 (5 ∷ 0 ∷ 0 ∷ 0 ∷ 0 ∷ 0 ∷ 0 ∷ 0 ∷ 0 ∷ 0 ∷ []) ∷ node 16877 3 128 (6 ∷ 0 ∷ 0 ∷ 0 ∷ 0 ∷ 0 ∷ 0 ∷ 0 ∷ 0 ∷ 0 ∷ []) ∷ node 33188 1 4 (7 ∷ 0 ∷ 0 ∷ 0 ∷ 0 ∷ 0 ∷ 0 ∷ 0 ∷ 0 ∷ 0 ∷ []) ∷ node 16877 2 128 (8 ∷ 0 ∷ 0 ∷ 0 ∷ 0 ∷ 0 ∷ 0 ∷ 0 ∷ 0 ∷ 0 ∷ []) ∷ node 33188 1 2000 (9 ∷ 10 ∷ 0 ∷ 0 ∷ 0 ∷ 0 ∷ 0 ∷ 0 ∷ 0 ∷ 0 ∷ []) ∷ node 41471 1 3 (11 ∷ 0 ∷ 0 ∷ 0 ∷ 0 ∷ 0 ∷ 0 ∷ 0 ∷ 0 ∷ 0 ∷ []) ∷ node 33188 1 1 (12 ∷ 0 ∷ 0 ∷ 0 ∷ 0 ∷ 0 ∷ 0 ∷ 0 ∷ 0 ∷ 0 ∷ []) ∷ node 33188 1 0 (0 ∷ 0 ∷ 0 ∷ 0 ∷ 0 ∷ 0 ∷ 0 ∷ 0 ∷ 0 ∷ 0 ∷ []) ∷ node 16877 2 64 (13 ∷ 0 ∷ 0 ∷ 0 ∷ 0 ∷ 0 ∷ 0 ∷ 0 ∷ 0 ∷ 0 ∷ []) ∷ []) (zone_with 5 (file 1024 (piece 0 (hex 3 0x01002e) ∷ piece 32 (hex 4 0x01002e2e) ∷ piece 64 (hex 3 0x020070) ∷ piece 96 (hex 3 0x030061) ∷ piece 128 (hex 3 0x06006c) ∷ piece 160 (hex 3 0x090072) ∷ piece 192 (hex 3 0x07002e) ∷ [])) ∷ zone_with 6 (file 1024 (piece 0 (hex 3 0x02002e) ∷ piece 32 (hex 4 0x01002e2e) ∷ piece 64 (hex 3 0x040071) ∷ piece 96 (hex 3 0x050062) ∷ [])) ∷ zone_with 8 (file 1024 (piece 0 (hex 3 0x04002e) ∷ piece 32 (hex 4 0x02002e2e) ∷ piece 64 (hex 3 0x070063) ∷ piece 96 (hex 3 0x080064) ∷ [])) ∷ zone_with 13 (file 1024 (piece 0 (hex 3 0x09002e) ∷ piece 32 (hex 4 0x01002e2e) ∷ [])) ∷ []) (1 ∷ 2 ∷ 3 ∷ 4 ∷ 5 ∷ 6 ∷ 7 ∷ 8 ∷ 9 ∷ []) (5 ∷ 6 ∷ 7 ∷ 8 ∷ 9 ∷ 10 ∷ 11 ∷ 12 ∷ 13 ∷ [])) ≡ Err (BadLink 1 6)
unfolding number16 number32 is_zero kind_of super_of super_checks super_in super_at v1_inode v2_inode inode_of inode_at inode_place bit with_bit parts_of number_in follow pointer_by inside follow_at zone_at block_at content_at entry_of entry_at find_entry entries_at is_dots zone_number block content entry first_named lookup reached thing names names_in was_reached with_inode survey_walk owner names_of has_name judge judged survey_of is_indirect
minix_survey_name_twice_in_version_2_with_long_names_2 = refl

-- .. missing in version 2 with long names
pub minix_survey_dotdot_missing_in_version_2_with_long_names : survey_found (volume_by (super_with V2Long 16 48 1 1 5) (node 16877 4 192 (5 ∷ 0 ∷ 0 ∷ 0 ∷ 0 ∷ 0 ∷ 0 ∷ 0 ∷ 0 ∷ 0 ∷ []) ∷ node 16877 3 128 (6 ∷ 0 ∷ 0 ∷ 0 ∷ 0 ∷ 0 ∷ 0 ∷ 0 ∷ 0 ∷ 0 ∷ []) ∷ node 33188 1 4 (7 ∷ 0 ∷ 0 ∷ 0 ∷ 0 ∷ 0 ∷ 0 ∷ 0 ∷ 0 ∷ 0 ∷ []) ∷ node 16877 2 128 (8 ∷ 0 ∷ 0 ∷ 0 ∷ 0 ∷ 0 ∷ 0 ∷ 0 ∷ 0 ∷ 0 ∷ []) ∷ node 33188 1 2000 (9 ∷ 10 ∷ 0 ∷ 0 ∷ 0 ∷ 0 ∷ 0 ∷ 0 ∷ 0 ∷ 0 ∷ []) ∷ node 41471 1 3 (11 ∷ 0 ∷ 0 ∷ 0 ∷ 0 ∷ 0 ∷ 0 ∷ 0 ∷ 0 ∷ 0 ∷ []) ∷ node 33188 1 1 (12 ∷ 0 ∷ 0 ∷ 0 ∷ 0 ∷ 0 ∷ 0 ∷ 0 ∷ 0 ∷ 0 ∷ []) ∷ node 33188 1 0 (0 ∷ 0 ∷ 0 ∷ 0 ∷ 0 ∷ 0 ∷ 0 ∷ 0 ∷ 0 ∷ 0 ∷ []) ∷ node 16877 2 64 (13 ∷ 0 ∷ 0 ∷ 0 ∷ 0 ∷ 0 ∷ 0 ∷ 0 ∷ 0 ∷ 0 ∷ []) ∷ []) (zone_with 5 (file 1024 (piece 0 (hex 3 0x01002e) ∷ piece 32 (hex 4 0x01002e2e) ∷ piece 64 (hex 3 0x020070) ∷ piece 96 (hex 3 0x030061) ∷ piece 128 (hex 3 0x06006c) ∷ piece 160 (hex 3 0x090072) ∷ [])) ∷ zone_with 6 (file 1024 (piece 0 (hex 3 0x02002e) ∷ piece 32 (hex 4 0x01002e2e) ∷ piece 64 (hex 3 0x040071) ∷ piece 96 (hex 3 0x050062) ∷ [])) ∷ zone_with 8 (file 1024 (piece 0 (hex 3 0x04002e) ∷ piece 32 (hex 4 0x02002e2e) ∷ piece 64 (hex 3 0x070063) ∷ piece 96 (hex 3 0x080064) ∷ [])) ∷ zone_with 13 (file 1024 (piece 0 (hex 3 0x09002e) ∷ piece 34 (codes "..") ∷ [])) ∷ []) (1 ∷ 2 ∷ 3 ∷ 4 ∷ 5 ∷ 6 ∷ 7 ∷ 8 ∷ 9 ∷ []) (5 ∷ 6 ∷ 7 ∷ 8 ∷ 9 ∷ 10 ∷ 11 ∷ 12 ∷ 13 ∷ [])) ≡ Err (BadLink 9 2)
unfolding number16 number32 is_zero kind_of super_of super_checks super_in super_at v1_inode v2_inode inode_of inode_at inode_place bit with_bit parts_of number_in follow pointer_by inside follow_at zone_at block_at content_at entry_of entry_at find_entry entries_at is_dots zone_number block content entry first_named lookup reached thing names names_in was_reached with_inode survey_walk owner names_of has_name judge judged survey_of is_indirect
minix_survey_dotdot_missing_in_version_2_with_long_names = refl

-- a second . in version 2 with long names
pub minix_survey_a_second_dot_in_version_2_with_long_names : survey_found (volume_by (super_with V2Long 16 48 1 1 5) (node 16877 4 192 (5 ∷ 0 ∷ 0 ∷ 0 ∷ 0 ∷ 0 ∷ 0 ∷ 0 ∷ 0 ∷ 0 ∷ []) ∷ node 16877 3 160 (6 ∷ 0 ∷ 0 ∷ 0 ∷ 0 ∷ 0 ∷ 0 ∷ 0 ∷ 0 ∷ 0 ∷ []) ∷ node 33188 1 4 (7 ∷ 0 ∷ 0 ∷ 0 ∷ 0 ∷ 0 ∷ 0 ∷ 0 ∷ 0 ∷ 0 ∷ []) ∷ node 16877 2 128 (8 ∷ 0 ∷ 0 ∷ 0 ∷ 0 ∷ 0 ∷ 0 ∷ 0 ∷ 0 ∷ 0 ∷ []) ∷ node 33188 1 2000 (9 ∷ 10 ∷ 0 ∷ 0 ∷ 0 ∷ 0 ∷ 0 ∷ 0 ∷ 0 ∷ 0 ∷ []) ∷ node 41471 1 3 (11 ∷ 0 ∷ 0 ∷ 0 ∷ 0 ∷ 0 ∷ 0 ∷ 0 ∷ 0 ∷ 0 ∷ []) ∷ node 33188 1 1 (12 ∷ 0 ∷ 0 ∷ 0 ∷ 0 ∷ 0 ∷ 0 ∷ 0 ∷ 0 ∷ 0 ∷ []) ∷ node 33188 1 0 (0 ∷ 0 ∷ 0 ∷ 0 ∷ 0 ∷ 0 ∷ 0 ∷ 0 ∷ 0 ∷ 0 ∷ []) ∷ node 16877 2 64 (13 ∷ 0 ∷ 0 ∷ 0 ∷ 0 ∷ 0 ∷ 0 ∷ 0 ∷ 0 ∷ 0 ∷ []) ∷ []) (zone_with 5 (file 1024 (piece 0 (hex 3 0x01002e) ∷ piece 32 (hex 4 0x01002e2e) ∷ piece 64 (hex 3 0x020070) ∷ piece 96 (hex 3 0x030061) ∷ piece 128 (hex 3 0x06006c) ∷ piece 160 (hex 3 0x090072) ∷ [])) ∷ zone_with 6 (file 1024 (piece 0 (hex 3 0x02002e) ∷ piece 32 (hex 4 0x01002e2e) ∷ piece 64 (hex 3 0x040071) ∷ piece 96 (hex 3 0x050062) ∷ piece 128 (hex 3 0x02002e) ∷ [])) ∷ zone_with 8 (file 1024 (piece 0 (hex 3 0x04002e) ∷ piece 32 (hex 4 0x02002e2e) ∷ piece 64 (hex 3 0x070063) ∷ piece 96 (hex 3 0x080064) ∷ [])) ∷ zone_with 13 (file 1024 (piece 0 (hex 3 0x09002e) ∷ piece 32 (hex 4 0x01002e2e) ∷ [])) ∷ []) (1 ∷ 2 ∷ 3 ∷ 4 ∷ 5 ∷ 6 ∷ 7 ∷ 8 ∷ 9 ∷ []) (5 ∷ 6 ∷ 7 ∷ 8 ∷ 9 ∷ 10 ∷ 11 ∷ 12 ∷ 13 ∷ [])) ≡ Err (BadLink 2 4)
unfolding number16 number32 is_zero kind_of super_of super_checks super_in super_at v1_inode v2_inode inode_of inode_at inode_place bit with_bit parts_of number_in follow pointer_by inside follow_at zone_at block_at content_at entry_of entry_at find_entry entries_at is_dots zone_number block content entry first_named lookup reached thing names names_in was_reached with_inode survey_walk owner names_of has_name judge judged survey_of is_indirect
minix_survey_a_second_dot_in_version_2_with_long_names = refl

-- . and .. exchanged in version 2 with long names
pub minix_survey_dot_and_dotdot_exchanged_in_version_2_with_long_names : survey_found (volume_by (super_with V2Long 16 48 1 1 5) (node 16877 4 192 (5 ∷ 0 ∷ 0 ∷ 0 ∷ 0 ∷ 0 ∷ 0 ∷ 0 ∷ 0 ∷ 0 ∷ []) ∷ node 16877 3 128 (6 ∷ 0 ∷ 0 ∷ 0 ∷ 0 ∷ 0 ∷ 0 ∷ 0 ∷ 0 ∷ 0 ∷ []) ∷ node 33188 1 4 (7 ∷ 0 ∷ 0 ∷ 0 ∷ 0 ∷ 0 ∷ 0 ∷ 0 ∷ 0 ∷ 0 ∷ []) ∷ node 16877 2 128 (8 ∷ 0 ∷ 0 ∷ 0 ∷ 0 ∷ 0 ∷ 0 ∷ 0 ∷ 0 ∷ 0 ∷ []) ∷ node 33188 1 2000 (9 ∷ 10 ∷ 0 ∷ 0 ∷ 0 ∷ 0 ∷ 0 ∷ 0 ∷ 0 ∷ 0 ∷ []) ∷ node 41471 1 3 (11 ∷ 0 ∷ 0 ∷ 0 ∷ 0 ∷ 0 ∷ 0 ∷ 0 ∷ 0 ∷ 0 ∷ []) ∷ node 33188 1 1 (12 ∷ 0 ∷ 0 ∷ 0 ∷ 0 ∷ 0 ∷ 0 ∷ 0 ∷ 0 ∷ 0 ∷ []) ∷ node 33188 1 0 (0 ∷ 0 ∷ 0 ∷ 0 ∷ 0 ∷ 0 ∷ 0 ∷ 0 ∷ 0 ∷ 0 ∷ []) ∷ node 16877 2 64 (13 ∷ 0 ∷ 0 ∷ 0 ∷ 0 ∷ 0 ∷ 0 ∷ 0 ∷ 0 ∷ 0 ∷ []) ∷ []) (zone_with 5 (file 1024 (piece 0 (hex 4 0x01002e2e) ∷ piece 32 (hex 3 0x01002e) ∷ piece 64 (hex 3 0x020070) ∷ piece 96 (hex 3 0x030061) ∷ piece 128 (hex 3 0x06006c) ∷ piece 160 (hex 3 0x090072) ∷ [])) ∷ zone_with 6 (file 1024 (piece 0 (hex 3 0x02002e) ∷ piece 32 (hex 4 0x01002e2e) ∷ piece 64 (hex 3 0x040071) ∷ piece 96 (hex 3 0x050062) ∷ [])) ∷ zone_with 8 (file 1024 (piece 0 (hex 3 0x04002e) ∷ piece 32 (hex 4 0x02002e2e) ∷ piece 64 (hex 3 0x070063) ∷ piece 96 (hex 3 0x080064) ∷ [])) ∷ zone_with 13 (file 1024 (piece 0 (hex 3 0x09002e) ∷ piece 32 (hex 4 0x01002e2e) ∷ [])) ∷ []) (1 ∷ 2 ∷ 3 ∷ 4 ∷ 5 ∷ 6 ∷ 7 ∷ 8 ∷ 9 ∷ []) (5 ∷ 6 ∷ 7 ∷ 8 ∷ 9 ∷ 10 ∷ 11 ∷ 12 ∷ 13 ∷ [])) ≡ Ok (found (owned 5 1 false ∷ owned 6 2 false ∷ owned 7 3 false ∷ owned 8 4 false ∷ owned 9 5 false ∷ owned 10 5 false ∷ owned 11 6 false ∷ owned 12 7 false ∷ owned 13 9 false ∷ []) (0 ∷ 1 ∷ 1 ∷ 1 ∷ 1 ∷ 1 ∷ 1 ∷ 1 ∷ 1 ∷ 0 ∷ 0 ∷ 0 ∷ 0 ∷ 0 ∷ 0 ∷ 0 ∷ []))
unfolding number16 number32 is_zero kind_of super_of super_checks super_in super_at v1_inode v2_inode inode_of inode_at inode_place bit with_bit parts_of number_in follow pointer_by inside follow_at zone_at block_at content_at entry_of entry_at find_entry entries_at is_dots zone_number block content entry first_named lookup reached thing names names_in was_reached with_inode survey_walk owner names_of has_name judge judged survey_of is_indirect
minix_survey_dot_and_dotdot_exchanged_in_version_2_with_long_names = refl

-- . and .. exchanged and then free entry in version 2 with long names
pub minix_survey_dot_and_dotdot_exchanged_and_then_free_entry_in_version_2_with_long_names : survey_found (volume_by (super_with V2Long 16 48 1 1 5) (node 16877 4 192 (5 ∷ 0 ∷ 0 ∷ 0 ∷ 0 ∷ 0 ∷ 0 ∷ 0 ∷ 0 ∷ 0 ∷ []) ∷ node 16877 3 128 (6 ∷ 0 ∷ 0 ∷ 0 ∷ 0 ∷ 0 ∷ 0 ∷ 0 ∷ 0 ∷ 0 ∷ []) ∷ node 33188 1 4 (7 ∷ 0 ∷ 0 ∷ 0 ∷ 0 ∷ 0 ∷ 0 ∷ 0 ∷ 0 ∷ 0 ∷ []) ∷ node 16877 2 128 (8 ∷ 0 ∷ 0 ∷ 0 ∷ 0 ∷ 0 ∷ 0 ∷ 0 ∷ 0 ∷ 0 ∷ []) ∷ node 33188 1 2000 (9 ∷ 10 ∷ 0 ∷ 0 ∷ 0 ∷ 0 ∷ 0 ∷ 0 ∷ 0 ∷ 0 ∷ []) ∷ node 41471 1 3 (11 ∷ 0 ∷ 0 ∷ 0 ∷ 0 ∷ 0 ∷ 0 ∷ 0 ∷ 0 ∷ 0 ∷ []) ∷ node 33188 1 1 (12 ∷ 0 ∷ 0 ∷ 0 ∷ 0 ∷ 0 ∷ 0 ∷ 0 ∷ 0 ∷ 0 ∷ []) ∷ node 33188 1 9216 (13 ∷ 14 ∷ 15 ∷ 16 ∷ 17 ∷ 18 ∷ 19 ∷ 22 ∷ 0 ∷ 0 ∷ []) ∷ node 16877 2 64 (23 ∷ 0 ∷ 0 ∷ 0 ∷ 0 ∷ 0 ∷ 0 ∷ 0 ∷ 0 ∷ 0 ∷ []) ∷ []) (zone_with 5 (file 1024 (piece 0 (hex 3 0x01002e) ∷ piece 32 (hex 4 0x01002e2e) ∷ piece 64 (hex 3 0x020070) ∷ piece 96 (hex 3 0x030061) ∷ piece 130 (codes "old") ∷ piece 160 (hex 3 0x090072) ∷ [])) ∷ zone_with 6 (file 1024 (piece 0 (hex 3 0x02002e) ∷ piece 32 (hex 4 0x01002e2e) ∷ piece 64 (hex 3 0x040071) ∷ piece 96 (hex 3 0x050062) ∷ [])) ∷ zone_with 8 (file 1024 (piece 0 (hex 3 0x04002e) ∷ piece 32 (hex 4 0x02002e2e) ∷ piece 64 (hex 3 0x070063) ∷ piece 96 (hex 5 0x0800626967) ∷ [])) ∷ zone_with 22 (file 1024 (piece 0 (hex 5 0x1400000015) ∷ [])) ∷ zone_with 23 (file 1024 (piece 0 (hex 4 0x01002e2e) ∷ piece 32 (hex 3 0x09002e) ∷ [])) ∷ []) (1 ∷ 2 ∷ 3 ∷ 4 ∷ 5 ∷ 6 ∷ 7 ∷ 8 ∷ 9 ∷ []) (5 ∷ 6 ∷ 7 ∷ 8 ∷ 9 ∷ 10 ∷ 11 ∷ 12 ∷ 13 ∷ 14 ∷ 15 ∷ 16 ∷ 17 ∷ 18 ∷ 19 ∷ 20 ∷ 21 ∷ 22 ∷ 23 ∷ [])) ≡ Ok (found (owned 5 1 false ∷ owned 6 2 false ∷ owned 7 3 false ∷ owned 8 4 false ∷ owned 9 5 false ∷ owned 10 5 false ∷ owned 12 7 false ∷ owned 13 8 false ∷ owned 14 8 false ∷ owned 15 8 false ∷ owned 16 8 false ∷ owned 17 8 false ∷ owned 18 8 false ∷ owned 19 8 false ∷ owned 20 8 false ∷ owned 21 8 false ∷ owned 22 8 true ∷ owned 23 9 false ∷ []) (0 ∷ 1 ∷ 1 ∷ 1 ∷ 1 ∷ 0 ∷ 1 ∷ 1 ∷ 1 ∷ 0 ∷ 0 ∷ 0 ∷ 0 ∷ 0 ∷ 0 ∷ 0 ∷ []))
unfolding number16 number32 is_zero kind_of super_of super_checks super_in super_at v1_inode v2_inode inode_of inode_at inode_place bit with_bit parts_of number_in follow pointer_by inside follow_at zone_at block_at content_at entry_of entry_at find_entry entries_at is_dots zone_number block content entry first_named lookup reached thing names names_in was_reached with_inode survey_walk owner names_of has_name judge judged survey_of is_indirect
minix_survey_dot_and_dotdot_exchanged_and_then_free_entry_in_version_2_with_long_names = refl

-- links fewer in version 2 with long names
pub minix_survey_links_fewer_in_version_2_with_long_names : survey_found (volume_by (super_with V2Long 16 48 1 1 5) (node 16877 4 192 (5 ∷ 0 ∷ 0 ∷ 0 ∷ 0 ∷ 0 ∷ 0 ∷ 0 ∷ 0 ∷ 0 ∷ []) ∷ node 16877 3 128 (6 ∷ 0 ∷ 0 ∷ 0 ∷ 0 ∷ 0 ∷ 0 ∷ 0 ∷ 0 ∷ 0 ∷ []) ∷ node 33188 1 4 (7 ∷ 0 ∷ 0 ∷ 0 ∷ 0 ∷ 0 ∷ 0 ∷ 0 ∷ 0 ∷ 0 ∷ []) ∷ node 16877 1 128 (8 ∷ 0 ∷ 0 ∷ 0 ∷ 0 ∷ 0 ∷ 0 ∷ 0 ∷ 0 ∷ 0 ∷ []) ∷ node 33188 1 2000 (9 ∷ 10 ∷ 0 ∷ 0 ∷ 0 ∷ 0 ∷ 0 ∷ 0 ∷ 0 ∷ 0 ∷ []) ∷ node 41471 1 3 (11 ∷ 0 ∷ 0 ∷ 0 ∷ 0 ∷ 0 ∷ 0 ∷ 0 ∷ 0 ∷ 0 ∷ []) ∷ node 33188 1 1 (12 ∷ 0 ∷ 0 ∷ 0 ∷ 0 ∷ 0 ∷ 0 ∷ 0 ∷ 0 ∷ 0 ∷ []) ∷ node 33188 1 0 (0 ∷ 0 ∷ 0 ∷ 0 ∷ 0 ∷ 0 ∷ 0 ∷ 0 ∷ 0 ∷ 0 ∷ []) ∷ node 16877 2 64 (13 ∷ 0 ∷ 0 ∷ 0 ∷ 0 ∷ 0 ∷ 0 ∷ 0 ∷ 0 ∷ 0 ∷ []) ∷ []) (zone_with 5 (file 1024 (piece 0 (hex 3 0x01002e) ∷ piece 32 (hex 4 0x01002e2e) ∷ piece 64 (hex 3 0x020070) ∷ piece 96 (hex 3 0x030061) ∷ piece 128 (hex 3 0x06006c) ∷ piece 160 (hex 3 0x090072) ∷ [])) ∷ zone_with 6 (file 1024 (piece 0 (hex 3 0x02002e) ∷ piece 32 (hex 4 0x01002e2e) ∷ piece 64 (hex 3 0x040071) ∷ piece 96 (hex 3 0x050062) ∷ [])) ∷ zone_with 8 (file 1024 (piece 0 (hex 3 0x04002e) ∷ piece 32 (hex 4 0x02002e2e) ∷ piece 64 (hex 3 0x070063) ∷ piece 96 (hex 3 0x080064) ∷ [])) ∷ zone_with 13 (file 1024 (piece 0 (hex 3 0x09002e) ∷ piece 32 (hex 4 0x01002e2e) ∷ [])) ∷ []) (1 ∷ 2 ∷ 3 ∷ 4 ∷ 5 ∷ 6 ∷ 7 ∷ 8 ∷ 9 ∷ []) (5 ∷ 6 ∷ 7 ∷ 8 ∷ 9 ∷ 10 ∷ 11 ∷ 12 ∷ 13 ∷ [])) ≡ Ok (found (owned 5 1 false ∷ owned 6 2 false ∷ owned 7 3 false ∷ owned 8 4 false ∷ owned 9 5 false ∷ owned 10 5 false ∷ owned 11 6 false ∷ owned 12 7 false ∷ owned 13 9 false ∷ []) (0 ∷ 1 ∷ 1 ∷ 1 ∷ 1 ∷ 1 ∷ 1 ∷ 1 ∷ 1 ∷ 0 ∷ 0 ∷ 0 ∷ 0 ∷ 0 ∷ 0 ∷ 0 ∷ []))
unfolding number16 number32 is_zero kind_of super_of super_checks super_in super_at v1_inode v2_inode inode_of inode_at inode_place bit with_bit parts_of number_in follow pointer_by inside follow_at zone_at block_at content_at entry_of entry_at find_entry entries_at is_dots zone_number block content entry first_named lookup reached thing names names_in was_reached with_inode survey_walk owner names_of has_name judge judged survey_of is_indirect
minix_survey_links_fewer_in_version_2_with_long_names = refl

-- links more in version 2 with long names
pub minix_survey_links_more_in_version_2_with_long_names : survey_found (volume_by (super_with V2Long 16 48 1 1 5) (node 16877 4 192 (5 ∷ 0 ∷ 0 ∷ 0 ∷ 0 ∷ 0 ∷ 0 ∷ 0 ∷ 0 ∷ 0 ∷ []) ∷ node 16877 3 128 (6 ∷ 0 ∷ 0 ∷ 0 ∷ 0 ∷ 0 ∷ 0 ∷ 0 ∷ 0 ∷ 0 ∷ []) ∷ node 33188 1 4 (7 ∷ 0 ∷ 0 ∷ 0 ∷ 0 ∷ 0 ∷ 0 ∷ 0 ∷ 0 ∷ 0 ∷ []) ∷ node 16877 2 128 (8 ∷ 0 ∷ 0 ∷ 0 ∷ 0 ∷ 0 ∷ 0 ∷ 0 ∷ 0 ∷ 0 ∷ []) ∷ node 33188 1 2000 (9 ∷ 10 ∷ 0 ∷ 0 ∷ 0 ∷ 0 ∷ 0 ∷ 0 ∷ 0 ∷ 0 ∷ []) ∷ node 41471 1 3 (11 ∷ 0 ∷ 0 ∷ 0 ∷ 0 ∷ 0 ∷ 0 ∷ 0 ∷ 0 ∷ 0 ∷ []) ∷ node 33188 6 1 (12 ∷ 0 ∷ 0 ∷ 0 ∷ 0 ∷ 0 ∷ 0 ∷ 0 ∷ 0 ∷ 0 ∷ []) ∷ node 33188 1 0 (0 ∷ 0 ∷ 0 ∷ 0 ∷ 0 ∷ 0 ∷ 0 ∷ 0 ∷ 0 ∷ 0 ∷ []) ∷ node 16877 2 64 (13 ∷ 0 ∷ 0 ∷ 0 ∷ 0 ∷ 0 ∷ 0 ∷ 0 ∷ 0 ∷ 0 ∷ []) ∷ []) (zone_with 5 (file 1024 (piece 0 (hex 3 0x01002e) ∷ piece 32 (hex 4 0x01002e2e) ∷ piece 64 (hex 3 0x020070) ∷ piece 96 (hex 3 0x030061) ∷ piece 128 (hex 3 0x06006c) ∷ piece 160 (hex 3 0x090072) ∷ [])) ∷ zone_with 6 (file 1024 (piece 0 (hex 3 0x02002e) ∷ piece 32 (hex 4 0x01002e2e) ∷ piece 64 (hex 3 0x040071) ∷ piece 96 (hex 3 0x050062) ∷ [])) ∷ zone_with 8 (file 1024 (piece 0 (hex 3 0x04002e) ∷ piece 32 (hex 4 0x02002e2e) ∷ piece 64 (hex 3 0x070063) ∷ piece 96 (hex 3 0x080064) ∷ [])) ∷ zone_with 13 (file 1024 (piece 0 (hex 3 0x09002e) ∷ piece 32 (hex 4 0x01002e2e) ∷ [])) ∷ []) (1 ∷ 2 ∷ 3 ∷ 4 ∷ 5 ∷ 6 ∷ 7 ∷ 8 ∷ 9 ∷ []) (5 ∷ 6 ∷ 7 ∷ 8 ∷ 9 ∷ 10 ∷ 11 ∷ 12 ∷ 13 ∷ [])) ≡ Ok (found (owned 5 1 false ∷ owned 6 2 false ∷ owned 7 3 false ∷ owned 8 4 false ∷ owned 9 5 false ∷ owned 10 5 false ∷ owned 11 6 false ∷ owned 12 7 false ∷ owned 13 9 false ∷ []) (0 ∷ 1 ∷ 1 ∷ 1 ∷ 1 ∷ 1 ∷ 1 ∷ 1 ∷ 1 ∷ 0 ∷ 0 ∷ 0 ∷ 0 ∷ 0 ∷ 0 ∷ 0 ∷ []))
unfolding number16 number32 is_zero kind_of super_of super_checks super_in super_at v1_inode v2_inode inode_of inode_at inode_place bit with_bit parts_of number_in follow pointer_by inside follow_at zone_at block_at content_at entry_of entry_at find_entry entries_at is_dots zone_number block content entry first_named lookup reached thing names names_in was_reached with_inode survey_walk owner names_of has_name judge judged survey_of is_indirect
minix_survey_links_more_in_version_2_with_long_names = refl

-- zone of another in version 2 with long names
pub minix_survey_zone_of_another_in_version_2_with_long_names : survey_found (volume_by (super_with V2Long 16 48 1 1 5) (node 16877 4 192 (5 ∷ 0 ∷ 0 ∷ 0 ∷ 0 ∷ 0 ∷ 0 ∷ 0 ∷ 0 ∷ 0 ∷ []) ∷ node 16877 3 128 (6 ∷ 0 ∷ 0 ∷ 0 ∷ 0 ∷ 0 ∷ 0 ∷ 0 ∷ 0 ∷ 0 ∷ []) ∷ node 33188 1 4 (7 ∷ 0 ∷ 0 ∷ 0 ∷ 0 ∷ 0 ∷ 0 ∷ 0 ∷ 0 ∷ 0 ∷ []) ∷ node 16877 2 128 (8 ∷ 0 ∷ 0 ∷ 0 ∷ 0 ∷ 0 ∷ 0 ∷ 0 ∷ 0 ∷ 0 ∷ []) ∷ node 33188 1 2000 (9 ∷ 10 ∷ 0 ∷ 0 ∷ 0 ∷ 0 ∷ 0 ∷ 0 ∷ 0 ∷ 0 ∷ []) ∷ node 41471 1 3 (11 ∷ 0 ∷ 0 ∷ 0 ∷ 0 ∷ 0 ∷ 0 ∷ 0 ∷ 0 ∷ 0 ∷ []) ∷ node 33188 1 1 (12 ∷ 0 ∷ 0 ∷ 0 ∷ 0 ∷ 0 ∷ 0 ∷ 0 ∷ 0 ∷ 0 ∷ []) ∷ node 33188 1 0 (0 ∷ 0 ∷ 0 ∷ 0 ∷ 0 ∷ 0 ∷ 0 ∷ 0 ∷ 0 ∷ 0 ∷ []) ∷ node 16877 2 64 (13 ∷ 0 ∷ 0 ∷ 0 ∷ 0 ∷ 13 ∷ 0 ∷ 0 ∷ 0 ∷ 0 ∷ []) ∷ []) (zone_with 5 (file 1024 (piece 0 (hex 3 0x01002e) ∷ piece 32 (hex 4 0x01002e2e) ∷ piece 64 (hex 3 0x020070) ∷ piece 96 (hex 3 0x030061) ∷ piece 128 (hex 3 0x06006c) ∷ piece 160 (hex 3 0x090072) ∷ [])) ∷ zone_with 6 (file 1024 (piece 0 (hex 3 0x02002e) ∷ piece 32 (hex 4 0x01002e2e) ∷ piece 64 (hex 3 0x040071) ∷ piece 96 (hex 3 0x050062) ∷ [])) ∷ zone_with 8 (file 1024 (piece 0 (hex 3 0x04002e) ∷ piece 32 (hex 4 0x02002e2e) ∷ piece 64 (hex 3 0x070063) ∷ piece 96 (hex 3 0x080064) ∷ [])) ∷ zone_with 13 (file 1024 (piece 0 (hex 3 0x09002e) ∷ piece 32 (hex 4 0x01002e2e) ∷ [])) ∷ []) (1 ∷ 2 ∷ 3 ∷ 4 ∷ 5 ∷ 6 ∷ 7 ∷ 8 ∷ 9 ∷ []) (5 ∷ 6 ∷ 7 ∷ 8 ∷ 9 ∷ 10 ∷ 11 ∷ 12 ∷ 13 ∷ [])) ≡ Err (Crossed 13 9 9)
unfolding number16 number32 is_zero kind_of super_of super_checks super_in super_at v1_inode v2_inode inode_of inode_at inode_place bit with_bit parts_of number_in follow pointer_by inside follow_at zone_at block_at content_at entry_of entry_at find_entry entries_at is_dots zone_number block content entry first_named lookup reached thing names names_in was_reached with_inode survey_walk owner names_of has_name judge judged survey_of is_indirect
minix_survey_zone_of_another_in_version_2_with_long_names = refl

-- indirect and then a device in version 2 with long names
pub minix_survey_indirect_and_then_a_device_in_version_2_with_long_names : survey_found (volume_by (super_with V2Long 16 48 1 1 5) (node 16877 4 192 (5 ∷ 0 ∷ 0 ∷ 0 ∷ 0 ∷ 0 ∷ 0 ∷ 0 ∷ 0 ∷ 0 ∷ []) ∷ node 16877 3 128 (6 ∷ 0 ∷ 0 ∷ 0 ∷ 0 ∷ 0 ∷ 0 ∷ 24 ∷ 0 ∷ 0 ∷ []) ∷ node 33188 1 4 (7 ∷ 0 ∷ 0 ∷ 0 ∷ 0 ∷ 0 ∷ 0 ∷ 0 ∷ 0 ∷ 0 ∷ []) ∷ node 16877 2 128 (8 ∷ 0 ∷ 0 ∷ 0 ∷ 0 ∷ 0 ∷ 0 ∷ 0 ∷ 0 ∷ 0 ∷ []) ∷ node 33188 1 2000 (9 ∷ 10 ∷ 0 ∷ 0 ∷ 0 ∷ 0 ∷ 0 ∷ 0 ∷ 0 ∷ 0 ∷ []) ∷ node 41471 1 3 (11 ∷ 0 ∷ 0 ∷ 0 ∷ 0 ∷ 0 ∷ 0 ∷ 0 ∷ 0 ∷ 0 ∷ []) ∷ node 8612 1 1 (3 ∷ 1 ∷ 9 ∷ 9 ∷ 65535 ∷ 0 ∷ 0 ∷ 0 ∷ 0 ∷ 0 ∷ []) ∷ node 33188 1 9216 (13 ∷ 14 ∷ 15 ∷ 16 ∷ 17 ∷ 18 ∷ 19 ∷ 22 ∷ 0 ∷ 0 ∷ []) ∷ node 16877 2 64 (23 ∷ 0 ∷ 0 ∷ 0 ∷ 0 ∷ 0 ∷ 0 ∷ 0 ∷ 0 ∷ 0 ∷ []) ∷ []) (zone_with 5 (file 1024 (piece 0 (hex 3 0x01002e) ∷ piece 32 (hex 4 0x01002e2e) ∷ piece 64 (hex 3 0x020070) ∷ piece 96 (hex 3 0x030061) ∷ piece 128 (hex 3 0x06006c) ∷ piece 160 (hex 3 0x090072) ∷ [])) ∷ zone_with 6 (file 1024 (piece 0 (hex 3 0x02002e) ∷ piece 32 (hex 4 0x01002e2e) ∷ piece 64 (hex 3 0x040071) ∷ piece 96 (hex 3 0x050062) ∷ [])) ∷ zone_with 8 (file 1024 (piece 0 (hex 3 0x04002e) ∷ piece 32 (hex 4 0x02002e2e) ∷ piece 64 (hex 3 0x070063) ∷ piece 96 (hex 5 0x0800626967) ∷ [])) ∷ zone_with 22 (file 1024 (piece 0 (hex 5 0x1400000015) ∷ [])) ∷ zone_with 23 (file 1024 (piece 0 (hex 3 0x09002e) ∷ piece 32 (hex 4 0x01002e2e) ∷ [])) ∷ zone_with 24 (file 1024 (piece 20 (hex 1 0x03) ∷ piece 1020 (hex 1 0x19) ∷ [])) ∷ []) (1 ∷ 2 ∷ 3 ∷ 4 ∷ 5 ∷ 6 ∷ 7 ∷ 8 ∷ 9 ∷ []) (5 ∷ 6 ∷ 7 ∷ 8 ∷ 9 ∷ 10 ∷ 11 ∷ 12 ∷ 13 ∷ 14 ∷ 15 ∷ 16 ∷ 17 ∷ 18 ∷ 19 ∷ 20 ∷ 21 ∷ 22 ∷ 23 ∷ 24 ∷ 25 ∷ [])) ≡ Err (Tree (Zone (ZoneOutside 3)))
unfolding number16 number32 is_zero kind_of super_of super_checks super_in super_at v1_inode v2_inode inode_of inode_at inode_place bit with_bit parts_of number_in follow pointer_by inside follow_at zone_at block_at content_at entry_of entry_at find_entry entries_at is_dots zone_number block content entry first_named lookup reached thing names names_in was_reached with_inode survey_walk owner names_of has_name judge judged survey_of is_indirect
minix_survey_indirect_and_then_a_device_in_version_2_with_long_names = refl

-- names itself in version 2 with long names
pub minix_survey_names_itself_in_version_2_with_long_names : survey_found (volume_by (super_with V2Long 16 48 1 1 5) (node 16877 4 192 (5 ∷ 0 ∷ 0 ∷ 0 ∷ 0 ∷ 0 ∷ 0 ∷ 0 ∷ 0 ∷ 0 ∷ []) ∷ node 16877 3 128 (6 ∷ 0 ∷ 0 ∷ 0 ∷ 0 ∷ 0 ∷ 0 ∷ 0 ∷ 0 ∷ 0 ∷ []) ∷ node 33188 1 4 (7 ∷ 0 ∷ 0 ∷ 0 ∷ 0 ∷ 0 ∷ 0 ∷ 0 ∷ 0 ∷ 0 ∷ []) ∷ node 16877 2 128 (8 ∷ 0 ∷ 0 ∷ 0 ∷ 0 ∷ 0 ∷ 0 ∷ 0 ∷ 0 ∷ 0 ∷ []) ∷ node 33188 1 2000 (9 ∷ 10 ∷ 0 ∷ 0 ∷ 0 ∷ 0 ∷ 0 ∷ 0 ∷ 0 ∷ 0 ∷ []) ∷ node 41471 1 3 (11 ∷ 0 ∷ 0 ∷ 0 ∷ 0 ∷ 0 ∷ 0 ∷ 0 ∷ 0 ∷ 0 ∷ []) ∷ node 33188 1 1 (12 ∷ 0 ∷ 0 ∷ 0 ∷ 0 ∷ 0 ∷ 0 ∷ 0 ∷ 0 ∷ 0 ∷ []) ∷ node 33188 1 0 (0 ∷ 0 ∷ 0 ∷ 0 ∷ 0 ∷ 0 ∷ 0 ∷ 0 ∷ 0 ∷ 0 ∷ []) ∷ node 16877 2 64 (13 ∷ 0 ∷ 0 ∷ 0 ∷ 0 ∷ 0 ∷ 0 ∷ 14 ∷ 0 ∷ 0 ∷ []) ∷ []) (zone_with 5 (file 1024 (piece 0 (hex 3 0x01002e) ∷ piece 32 (hex 4 0x01002e2e) ∷ piece 64 (hex 3 0x020070) ∷ piece 96 (hex 3 0x030061) ∷ piece 128 (hex 3 0x06006c) ∷ piece 160 (hex 3 0x090072) ∷ [])) ∷ zone_with 6 (file 1024 (piece 0 (hex 3 0x02002e) ∷ piece 32 (hex 4 0x01002e2e) ∷ piece 64 (hex 3 0x040071) ∷ piece 96 (hex 3 0x050062) ∷ [])) ∷ zone_with 8 (file 1024 (piece 0 (hex 3 0x04002e) ∷ piece 32 (hex 4 0x02002e2e) ∷ piece 64 (hex 3 0x070063) ∷ piece 96 (hex 3 0x080064) ∷ [])) ∷ zone_with 13 (file 1024 (piece 0 (hex 3 0x09002e) ∷ piece 32 (hex 4 0x01002e2e) ∷ [])) ∷ zone_with 14 (file 1024 (piece 0 (hex 1 0x0e) ∷ [])) ∷ []) (1 ∷ 2 ∷ 3 ∷ 4 ∷ 5 ∷ 6 ∷ 7 ∷ 8 ∷ 9 ∷ []) (5 ∷ 6 ∷ 7 ∷ 8 ∷ 9 ∷ 10 ∷ 11 ∷ 12 ∷ 13 ∷ 14 ∷ [])) ≡ Err (Crossed 14 9 9)
unfolding number16 number32 is_zero kind_of super_of super_checks super_in super_at v1_inode v2_inode inode_of inode_at inode_place bit with_bit parts_of number_in follow pointer_by inside follow_at zone_at block_at content_at entry_of entry_at find_entry entries_at is_dots zone_number block content entry first_named lookup reached thing names names_in was_reached with_inode survey_walk owner names_of has_name judge judged survey_of is_indirect
minix_survey_names_itself_in_version_2_with_long_names = refl

-- size and then names itself in version 2 with long names
pub minix_survey_size_and_then_names_itself_in_version_2_with_long_names : survey_found (volume_by (super_with V2Long 16 48 1 1 5) (node 16877 4 192 (5 ∷ 0 ∷ 0 ∷ 0 ∷ 0 ∷ 0 ∷ 0 ∷ 0 ∷ 0 ∷ 0 ∷ []) ∷ node 16877 3 128 (6 ∷ 0 ∷ 0 ∷ 0 ∷ 0 ∷ 0 ∷ 0 ∷ 24 ∷ 0 ∷ 0 ∷ []) ∷ node 33188 1 4 (7 ∷ 0 ∷ 0 ∷ 0 ∷ 0 ∷ 0 ∷ 0 ∷ 0 ∷ 0 ∷ 0 ∷ []) ∷ node 16877 2 128 (8 ∷ 0 ∷ 0 ∷ 0 ∷ 0 ∷ 0 ∷ 0 ∷ 0 ∷ 0 ∷ 0 ∷ []) ∷ node 33188 1 2000 (9 ∷ 10 ∷ 0 ∷ 0 ∷ 0 ∷ 0 ∷ 0 ∷ 0 ∷ 0 ∷ 0 ∷ []) ∷ node 41471 1 3 (11 ∷ 0 ∷ 0 ∷ 0 ∷ 0 ∷ 0 ∷ 0 ∷ 0 ∷ 0 ∷ 0 ∷ []) ∷ node 33188 1 1 (12 ∷ 0 ∷ 0 ∷ 0 ∷ 0 ∷ 0 ∷ 0 ∷ 0 ∷ 0 ∷ 0 ∷ []) ∷ node 33188 1 268966912 (13 ∷ 14 ∷ 15 ∷ 16 ∷ 17 ∷ 18 ∷ 19 ∷ 22 ∷ 0 ∷ 0 ∷ []) ∷ node 16877 2 64 (23 ∷ 0 ∷ 0 ∷ 0 ∷ 0 ∷ 0 ∷ 0 ∷ 0 ∷ 0 ∷ 0 ∷ []) ∷ []) (zone_with 5 (file 1024 (piece 0 (hex 3 0x01002e) ∷ piece 32 (hex 4 0x01002e2e) ∷ piece 64 (hex 3 0x020070) ∷ piece 96 (hex 3 0x030061) ∷ piece 128 (hex 3 0x06006c) ∷ piece 160 (hex 3 0x090072) ∷ [])) ∷ zone_with 6 (file 1024 (piece 0 (hex 3 0x02002e) ∷ piece 32 (hex 4 0x01002e2e) ∷ piece 64 (hex 3 0x040071) ∷ piece 96 (hex 3 0x050062) ∷ [])) ∷ zone_with 8 (file 1024 (piece 0 (hex 3 0x04002e) ∷ piece 32 (hex 4 0x02002e2e) ∷ piece 64 (hex 3 0x070063) ∷ piece 96 (hex 5 0x0800626967) ∷ [])) ∷ zone_with 22 (file 1024 (piece 0 (hex 5 0x1400000015) ∷ [])) ∷ zone_with 23 (file 1024 (piece 0 (hex 3 0x09002e) ∷ piece 32 (hex 4 0x01002e2e) ∷ [])) ∷ zone_with 24 (file 1024 (piece 0 (hex 1 0x18) ∷ [])) ∷ []) (1 ∷ 2 ∷ 3 ∷ 4 ∷ 5 ∷ 6 ∷ 7 ∷ 8 ∷ 9 ∷ []) (5 ∷ 6 ∷ 7 ∷ 8 ∷ 9 ∷ 10 ∷ 11 ∷ 12 ∷ 13 ∷ 14 ∷ 15 ∷ 16 ∷ 17 ∷ 18 ∷ 19 ∷ 20 ∷ 21 ∷ 22 ∷ 23 ∷ 24 ∷ [])) ≡ Err (Crossed 24 2 2)
unfolding number16 number32 is_zero kind_of super_of super_checks super_in super_at v1_inode v2_inode inode_of inode_at inode_place bit with_bit parts_of number_in follow pointer_by inside follow_at zone_at block_at content_at entry_of entry_at find_entry entries_at is_dots zone_number block content entry first_named lookup reached thing names names_in was_reached with_inode survey_walk owner names_of has_name judge judged survey_of is_indirect
minix_survey_size_and_then_names_itself_in_version_2_with_long_names = refl

-- size of a directory in version 2 with long names
pub minix_survey_size_of_a_directory_in_version_2_with_long_names : survey_found (volume_by (super_with V2Long 16 48 1 1 5) (node 16877 4 192 (5 ∷ 0 ∷ 0 ∷ 0 ∷ 0 ∷ 0 ∷ 0 ∷ 0 ∷ 0 ∷ 0 ∷ []) ∷ node 16877 3 128 (6 ∷ 0 ∷ 0 ∷ 0 ∷ 0 ∷ 0 ∷ 0 ∷ 0 ∷ 0 ∷ 0 ∷ []) ∷ node 33188 1 4 (7 ∷ 0 ∷ 0 ∷ 0 ∷ 0 ∷ 0 ∷ 0 ∷ 0 ∷ 0 ∷ 0 ∷ []) ∷ node 16877 2 128 (8 ∷ 0 ∷ 0 ∷ 0 ∷ 0 ∷ 0 ∷ 0 ∷ 0 ∷ 0 ∷ 0 ∷ []) ∷ node 33188 1 2000 (9 ∷ 10 ∷ 0 ∷ 0 ∷ 0 ∷ 0 ∷ 0 ∷ 0 ∷ 0 ∷ 0 ∷ []) ∷ node 41471 1 3 (11 ∷ 0 ∷ 0 ∷ 0 ∷ 0 ∷ 0 ∷ 0 ∷ 0 ∷ 0 ∷ 0 ∷ []) ∷ node 33188 1 1 (12 ∷ 0 ∷ 0 ∷ 0 ∷ 0 ∷ 0 ∷ 0 ∷ 0 ∷ 0 ∷ 0 ∷ []) ∷ node 33188 1 0 (0 ∷ 0 ∷ 0 ∷ 0 ∷ 0 ∷ 0 ∷ 0 ∷ 0 ∷ 0 ∷ 0 ∷ []) ∷ node 16877 2 31 (13 ∷ 0 ∷ 0 ∷ 0 ∷ 0 ∷ 0 ∷ 0 ∷ 0 ∷ 0 ∷ 0 ∷ []) ∷ []) (zone_with 5 (file 1024 (piece 0 (hex 3 0x01002e) ∷ piece 32 (hex 4 0x01002e2e) ∷ piece 64 (hex 3 0x020070) ∷ piece 96 (hex 3 0x030061) ∷ piece 128 (hex 3 0x06006c) ∷ piece 160 (hex 3 0x090072) ∷ [])) ∷ zone_with 6 (file 1024 (piece 0 (hex 3 0x02002e) ∷ piece 32 (hex 4 0x01002e2e) ∷ piece 64 (hex 3 0x040071) ∷ piece 96 (hex 3 0x050062) ∷ [])) ∷ zone_with 8 (file 1024 (piece 0 (hex 3 0x04002e) ∷ piece 32 (hex 4 0x02002e2e) ∷ piece 64 (hex 3 0x070063) ∷ piece 96 (hex 3 0x080064) ∷ [])) ∷ zone_with 13 (file 1024 (piece 0 (hex 3 0x09002e) ∷ piece 32 (hex 4 0x01002e2e) ∷ [])) ∷ []) (1 ∷ 2 ∷ 3 ∷ 4 ∷ 5 ∷ 6 ∷ 7 ∷ 8 ∷ 9 ∷ []) (5 ∷ 6 ∷ 7 ∷ 8 ∷ 9 ∷ 10 ∷ 11 ∷ 12 ∷ 13 ∷ [])) ≡ Err (BadLink 9 0)
unfolding number16 number32 is_zero kind_of super_of super_checks super_in super_at v1_inode v2_inode inode_of inode_at inode_place bit with_bit parts_of number_in follow pointer_by inside follow_at zone_at block_at content_at entry_of entry_at find_entry entries_at is_dots zone_number block content entry first_named lookup reached thing names names_in was_reached with_inode survey_walk owner names_of has_name judge judged survey_of is_indirect
minix_survey_size_of_a_directory_in_version_2_with_long_names = refl

-- bits without a use in version 2 with long names
pub minix_survey_bits_without_a_use_in_version_2_with_long_names : survey_found (volume_by (super_with V2Long 16 48 1 1 5) (node 16877 4 192 (5 ∷ 0 ∷ 0 ∷ 0 ∷ 0 ∷ 0 ∷ 0 ∷ 0 ∷ 0 ∷ 0 ∷ []) ∷ node 16877 3 128 (6 ∷ 0 ∷ 0 ∷ 0 ∷ 0 ∷ 0 ∷ 0 ∷ 0 ∷ 0 ∷ 0 ∷ []) ∷ node 33188 1 4 (7 ∷ 0 ∷ 0 ∷ 0 ∷ 0 ∷ 0 ∷ 0 ∷ 0 ∷ 0 ∷ 0 ∷ []) ∷ node 16877 2 128 (8 ∷ 0 ∷ 0 ∷ 0 ∷ 0 ∷ 0 ∷ 0 ∷ 0 ∷ 0 ∷ 0 ∷ []) ∷ node 33188 1 2000 (9 ∷ 10 ∷ 0 ∷ 0 ∷ 0 ∷ 0 ∷ 0 ∷ 0 ∷ 0 ∷ 0 ∷ []) ∷ node 41471 1 3 (11 ∷ 0 ∷ 0 ∷ 0 ∷ 0 ∷ 0 ∷ 0 ∷ 0 ∷ 0 ∷ 0 ∷ []) ∷ node 33188 1 1 (12 ∷ 0 ∷ 0 ∷ 0 ∷ 0 ∷ 0 ∷ 0 ∷ 0 ∷ 0 ∷ 0 ∷ []) ∷ node 33188 1 0 (0 ∷ 0 ∷ 0 ∷ 0 ∷ 0 ∷ 0 ∷ 0 ∷ 0 ∷ 0 ∷ 0 ∷ []) ∷ node 16877 2 64 (13 ∷ 0 ∷ 0 ∷ 0 ∷ 0 ∷ 0 ∷ 0 ∷ 0 ∷ 0 ∷ 0 ∷ []) ∷ []) (zone_with 5 (file 1024 (piece 0 (hex 3 0x01002e) ∷ piece 32 (hex 4 0x01002e2e) ∷ piece 64 (hex 3 0x020070) ∷ piece 96 (hex 3 0x030061) ∷ piece 128 (hex 3 0x06006c) ∷ piece 160 (hex 3 0x090072) ∷ [])) ∷ zone_with 6 (file 1024 (piece 0 (hex 3 0x02002e) ∷ piece 32 (hex 4 0x01002e2e) ∷ piece 64 (hex 3 0x040071) ∷ piece 96 (hex 3 0x050062) ∷ [])) ∷ zone_with 8 (file 1024 (piece 0 (hex 3 0x04002e) ∷ piece 32 (hex 4 0x02002e2e) ∷ piece 64 (hex 3 0x070063) ∷ piece 96 (hex 3 0x080064) ∷ [])) ∷ zone_with 13 (file 1024 (piece 0 (hex 3 0x09002e) ∷ piece 32 (hex 4 0x01002e2e) ∷ [])) ∷ []) (1 ∷ 2 ∷ 3 ∷ 4 ∷ 5 ∷ 6 ∷ 7 ∷ 8 ∷ 9 ∷ 16 ∷ []) (5 ∷ 6 ∷ 7 ∷ 8 ∷ 9 ∷ 10 ∷ 11 ∷ 12 ∷ 13 ∷ 47 ∷ [])) ≡ Ok (found (owned 5 1 false ∷ owned 6 2 false ∷ owned 7 3 false ∷ owned 8 4 false ∷ owned 9 5 false ∷ owned 10 5 false ∷ owned 11 6 false ∷ owned 12 7 false ∷ owned 13 9 false ∷ []) (0 ∷ 1 ∷ 1 ∷ 1 ∷ 1 ∷ 1 ∷ 1 ∷ 1 ∷ 1 ∷ 0 ∷ 0 ∷ 0 ∷ 0 ∷ 0 ∷ 0 ∷ 0 ∷ []))
unfolding number16 number32 is_zero kind_of super_of super_checks super_in super_at v1_inode v2_inode inode_of inode_at inode_place bit with_bit parts_of number_in follow pointer_by inside follow_at zone_at block_at content_at entry_of entry_at find_entry entries_at is_dots zone_number block content entry first_named lookup reached thing names names_in was_reached with_inode survey_walk owner names_of has_name judge judged survey_of is_indirect
minix_survey_bits_without_a_use_in_version_2_with_long_names = refl

-- free entry in version 2 with long names
pub minix_survey_free_entry_in_version_2_with_long_names : survey_found (volume_by (super_with V2Long 16 48 1 1 5) (node 16877 4 192 (5 ∷ 0 ∷ 0 ∷ 0 ∷ 0 ∷ 0 ∷ 0 ∷ 0 ∷ 0 ∷ 0 ∷ []) ∷ node 16877 3 128 (6 ∷ 0 ∷ 0 ∷ 0 ∷ 0 ∷ 0 ∷ 0 ∷ 0 ∷ 0 ∷ 0 ∷ []) ∷ node 33188 1 4 (7 ∷ 0 ∷ 0 ∷ 0 ∷ 0 ∷ 0 ∷ 0 ∷ 0 ∷ 0 ∷ 0 ∷ []) ∷ node 16877 2 128 (8 ∷ 0 ∷ 0 ∷ 0 ∷ 0 ∷ 0 ∷ 0 ∷ 0 ∷ 0 ∷ 0 ∷ []) ∷ node 33188 1 2000 (9 ∷ 10 ∷ 0 ∷ 0 ∷ 0 ∷ 0 ∷ 0 ∷ 0 ∷ 0 ∷ 0 ∷ []) ∷ node 41471 1 3 (11 ∷ 0 ∷ 0 ∷ 0 ∷ 0 ∷ 0 ∷ 0 ∷ 0 ∷ 0 ∷ 0 ∷ []) ∷ node 33188 1 1 (12 ∷ 0 ∷ 0 ∷ 0 ∷ 0 ∷ 0 ∷ 0 ∷ 0 ∷ 0 ∷ 0 ∷ []) ∷ node 33188 1 0 (0 ∷ 0 ∷ 0 ∷ 0 ∷ 0 ∷ 0 ∷ 0 ∷ 0 ∷ 0 ∷ 0 ∷ []) ∷ node 16877 2 64 (13 ∷ 0 ∷ 0 ∷ 0 ∷ 0 ∷ 0 ∷ 0 ∷ 0 ∷ 0 ∷ 0 ∷ []) ∷ []) (zone_with 5 (file 1024 (piece 0 (hex 3 0x01002e) ∷ piece 32 (hex 4 0x01002e2e) ∷ piece 64 (hex 3 0x020070) ∷ piece 96 (hex 3 0x030061) ∷ piece 128 (hex 3 0x06006c) ∷ piece 160 (hex 3 0x090072) ∷ [])) ∷ zone_with 6 (file 1024 (piece 0 (hex 3 0x02002e) ∷ piece 32 (hex 4 0x01002e2e) ∷ piece 66 (codes "old") ∷ piece 96 (hex 3 0x050062) ∷ [])) ∷ zone_with 8 (file 1024 (piece 0 (hex 3 0x04002e) ∷ piece 32 (hex 4 0x02002e2e) ∷ piece 64 (hex 3 0x070063) ∷ piece 96 (hex 3 0x080064) ∷ [])) ∷ zone_with 13 (file 1024 (piece 0 (hex 3 0x09002e) ∷ piece 32 (hex 4 0x01002e2e) ∷ [])) ∷ []) (1 ∷ 2 ∷ 3 ∷ 4 ∷ 5 ∷ 6 ∷ 7 ∷ 8 ∷ 9 ∷ []) (5 ∷ 6 ∷ 7 ∷ 8 ∷ 9 ∷ 10 ∷ 11 ∷ 12 ∷ 13 ∷ [])) ≡ Ok (found (owned 5 1 false ∷ owned 6 2 false ∷ owned 7 3 false ∷ owned 9 5 false ∷ owned 10 5 false ∷ owned 11 6 false ∷ owned 13 9 false ∷ []) (0 ∷ 1 ∷ 1 ∷ 0 ∷ 1 ∷ 1 ∷ 0 ∷ 0 ∷ 1 ∷ 0 ∷ 0 ∷ 0 ∷ 0 ∷ 0 ∷ 0 ∷ 0 ∷ []))
unfolding number16 number32 is_zero kind_of super_of super_checks super_in super_at v1_inode v2_inode inode_of inode_at inode_place bit with_bit parts_of number_in follow pointer_by inside follow_at zone_at block_at content_at entry_of entry_at find_entry entries_at is_dots zone_number block content entry first_named lookup reached thing names names_in was_reached with_inode survey_walk owner names_of has_name judge judged survey_of is_indirect
minix_survey_free_entry_in_version_2_with_long_names = refl

-- odd names in version 2 with long names
pub minix_survey_odd_names_in_version_2_with_long_names : survey_found (volume_by (super_with V2Long 16 48 1 1 5) (node 16877 4 192 (5 ∷ 0 ∷ 0 ∷ 0 ∷ 0 ∷ 0 ∷ 0 ∷ 0 ∷ 0 ∷ 0 ∷ []) ∷ node 16877 3 128 (6 ∷ 0 ∷ 0 ∷ 0 ∷ 0 ∷ 0 ∷ 0 ∷ 0 ∷ 0 ∷ 0 ∷ []) ∷ node 33188 2 4 (7 ∷ 0 ∷ 0 ∷ 0 ∷ 0 ∷ 0 ∷ 0 ∷ 0 ∷ 0 ∷ 0 ∷ []) ∷ node 16877 2 160 (8 ∷ 0 ∷ 0 ∷ 0 ∷ 0 ∷ 0 ∷ 0 ∷ 0 ∷ 0 ∷ 0 ∷ []) ∷ node 33188 1 2000 (9 ∷ 10 ∷ 0 ∷ 0 ∷ 0 ∷ 0 ∷ 0 ∷ 0 ∷ 0 ∷ 0 ∷ []) ∷ node 41471 1 3 (11 ∷ 0 ∷ 0 ∷ 0 ∷ 0 ∷ 0 ∷ 0 ∷ 0 ∷ 0 ∷ 0 ∷ []) ∷ node 33188 1 1 (12 ∷ 0 ∷ 0 ∷ 0 ∷ 0 ∷ 0 ∷ 0 ∷ 0 ∷ 0 ∷ 0 ∷ []) ∷ node 33188 1 0 (0 ∷ 0 ∷ 0 ∷ 0 ∷ 0 ∷ 0 ∷ 0 ∷ 0 ∷ 0 ∷ 0 ∷ []) ∷ node 16877 2 64 (13 ∷ 0 ∷ 0 ∷ 0 ∷ 0 ∷ 0 ∷ 0 ∷ 0 ∷ 0 ∷ 0 ∷ []) ∷ []) (zone_with 5 (file 1024 (piece 0 (hex 3 0x01002e) ∷ piece 32 (hex 4 0x01002e2e) ∷ piece 64 (hex 3 0x020070) ∷ piece 96 (hex 3 0x030061) ∷ piece 128 (hex 3 0x06006c) ∷ piece 160 (hex 3 0x090072) ∷ [])) ∷ zone_with 6 (file 1024 (piece 0 (hex 3 0x02002e) ∷ piece 32 (hex 4 0x01002e2e) ∷ piece 64 (hex 3 0x040071) ∷ piece 96 (hex 3 0x050062) ∷ [])) ∷ zone_with 8 (file 1024 (piece 0 (hex 3 0x04002e) ∷ piece 32 (hex 4 0x02002e2e) ∷ piece 64 (hex 3 0x070063) ∷ piece 96 (hex 3 0x080064) ∷ piece 128 (hex 5 0x03002e2e2e) ∷ [])) ∷ zone_with 13 (file 1024 (piece 0 (hex 3 0x09002e) ∷ piece 32 (hex 4 0x01002e2e) ∷ [])) ∷ []) (1 ∷ 2 ∷ 3 ∷ 4 ∷ 5 ∷ 6 ∷ 7 ∷ 8 ∷ 9 ∷ []) (5 ∷ 6 ∷ 7 ∷ 8 ∷ 9 ∷ 10 ∷ 11 ∷ 12 ∷ 13 ∷ [])) ≡ Ok (found (owned 5 1 false ∷ owned 6 2 false ∷ owned 7 3 false ∷ owned 8 4 false ∷ owned 9 5 false ∷ owned 10 5 false ∷ owned 11 6 false ∷ owned 12 7 false ∷ owned 13 9 false ∷ []) (0 ∷ 1 ∷ 2 ∷ 1 ∷ 1 ∷ 1 ∷ 1 ∷ 1 ∷ 1 ∷ 0 ∷ 0 ∷ 0 ∷ 0 ∷ 0 ∷ 0 ∷ 0 ∷ []))
unfolding number16 number32 is_zero kind_of super_of super_checks super_in super_at v1_inode v2_inode inode_of inode_at inode_place bit with_bit parts_of number_in follow pointer_by inside follow_at zone_at block_at content_at entry_of entry_at find_entry entries_at is_dots zone_number block content entry first_named lookup reached thing names names_in was_reached with_inode survey_walk owner names_of has_name judge judged survey_of is_indirect
minix_survey_odd_names_in_version_2_with_long_names = refl

-- hole in a directory in version 2 with long names
pub minix_survey_hole_in_a_directory_in_version_2_with_long_names : survey_found (volume_by (super_with V2Long 16 48 1 1 5) (node 16877 4 192 (5 ∷ 0 ∷ 0 ∷ 0 ∷ 0 ∷ 0 ∷ 0 ∷ 0 ∷ 0 ∷ 0 ∷ []) ∷ node 16877 3 128 (6 ∷ 0 ∷ 0 ∷ 0 ∷ 0 ∷ 0 ∷ 0 ∷ 0 ∷ 0 ∷ 0 ∷ []) ∷ node 33188 1 4 (7 ∷ 0 ∷ 0 ∷ 0 ∷ 0 ∷ 0 ∷ 0 ∷ 0 ∷ 0 ∷ 0 ∷ []) ∷ node 16877 2 1152 (0 ∷ 8 ∷ 0 ∷ 0 ∷ 0 ∷ 0 ∷ 0 ∷ 0 ∷ 0 ∷ 0 ∷ []) ∷ node 33188 1 2000 (9 ∷ 10 ∷ 0 ∷ 0 ∷ 0 ∷ 0 ∷ 0 ∷ 0 ∷ 0 ∷ 0 ∷ []) ∷ node 41471 1 3 (11 ∷ 0 ∷ 0 ∷ 0 ∷ 0 ∷ 0 ∷ 0 ∷ 0 ∷ 0 ∷ 0 ∷ []) ∷ node 33188 1 1 (12 ∷ 0 ∷ 0 ∷ 0 ∷ 0 ∷ 0 ∷ 0 ∷ 0 ∷ 0 ∷ 0 ∷ []) ∷ node 33188 1 0 (0 ∷ 0 ∷ 0 ∷ 0 ∷ 0 ∷ 0 ∷ 0 ∷ 0 ∷ 0 ∷ 0 ∷ []) ∷ node 16877 2 64 (13 ∷ 0 ∷ 0 ∷ 0 ∷ 0 ∷ 0 ∷ 0 ∷ 0 ∷ 0 ∷ 0 ∷ []) ∷ []) (zone_with 5 (file 1024 (piece 0 (hex 3 0x01002e) ∷ piece 32 (hex 4 0x01002e2e) ∷ piece 64 (hex 3 0x020070) ∷ piece 96 (hex 3 0x030061) ∷ piece 128 (hex 3 0x06006c) ∷ piece 160 (hex 3 0x090072) ∷ [])) ∷ zone_with 6 (file 1024 (piece 0 (hex 3 0x02002e) ∷ piece 32 (hex 4 0x01002e2e) ∷ piece 64 (hex 3 0x040071) ∷ piece 96 (hex 3 0x050062) ∷ [])) ∷ zone_with 8 (file 1024 (piece 0 (hex 3 0x04002e) ∷ piece 32 (hex 4 0x02002e2e) ∷ piece 64 (hex 3 0x070063) ∷ piece 96 (hex 3 0x080064) ∷ [])) ∷ zone_with 13 (file 1024 (piece 0 (hex 3 0x09002e) ∷ piece 32 (hex 4 0x01002e2e) ∷ [])) ∷ []) (1 ∷ 2 ∷ 3 ∷ 4 ∷ 5 ∷ 6 ∷ 7 ∷ 8 ∷ 9 ∷ []) (5 ∷ 6 ∷ 7 ∷ 8 ∷ 9 ∷ 10 ∷ 11 ∷ 12 ∷ 13 ∷ [])) ≡ Ok (found (owned 5 1 false ∷ owned 6 2 false ∷ owned 7 3 false ∷ owned 8 4 false ∷ owned 9 5 false ∷ owned 10 5 false ∷ owned 11 6 false ∷ owned 12 7 false ∷ owned 13 9 false ∷ []) (0 ∷ 1 ∷ 1 ∷ 1 ∷ 1 ∷ 1 ∷ 1 ∷ 1 ∷ 1 ∷ 0 ∷ 0 ∷ 0 ∷ 0 ∷ 0 ∷ 0 ∷ 0 ∷ []))
unfolding number16 number32 is_zero kind_of super_of super_checks super_in super_at v1_inode v2_inode inode_of inode_at inode_place bit with_bit parts_of number_in follow pointer_by inside follow_at zone_at block_at content_at entry_of entry_at find_entry entries_at is_dots zone_number block content entry first_named lookup reached thing names names_in was_reached with_inode survey_walk owner names_of has_name judge judged survey_of is_indirect
minix_survey_hole_in_a_directory_in_version_2_with_long_names = refl

-- hole in a directory in version 2 with long names
pub minix_survey_hole_in_a_directory_in_version_2_with_long_names_2 : survey_found (volume_by (super_with V2Long 16 48 1 1 5) (node 16877 4 192 (5 ∷ 0 ∷ 0 ∷ 0 ∷ 0 ∷ 0 ∷ 0 ∷ 0 ∷ 0 ∷ 0 ∷ []) ∷ node 16877 3 128 (6 ∷ 0 ∷ 0 ∷ 0 ∷ 0 ∷ 0 ∷ 0 ∷ 0 ∷ 0 ∷ 0 ∷ []) ∷ node 33188 1 4 (7 ∷ 0 ∷ 0 ∷ 0 ∷ 0 ∷ 0 ∷ 0 ∷ 0 ∷ 0 ∷ 0 ∷ []) ∷ node 16877 2 128 (8 ∷ 0 ∷ 0 ∷ 0 ∷ 0 ∷ 0 ∷ 0 ∷ 0 ∷ 0 ∷ 0 ∷ []) ∷ node 33188 1 2000 (9 ∷ 10 ∷ 0 ∷ 0 ∷ 0 ∷ 0 ∷ 0 ∷ 0 ∷ 0 ∷ 0 ∷ []) ∷ node 41471 1 3 (11 ∷ 0 ∷ 0 ∷ 0 ∷ 0 ∷ 0 ∷ 0 ∷ 0 ∷ 0 ∷ 0 ∷ []) ∷ node 33188 1 1 (12 ∷ 0 ∷ 0 ∷ 0 ∷ 0 ∷ 0 ∷ 0 ∷ 0 ∷ 0 ∷ 0 ∷ []) ∷ node 33188 1 0 (0 ∷ 0 ∷ 0 ∷ 0 ∷ 0 ∷ 0 ∷ 0 ∷ 0 ∷ 0 ∷ 0 ∷ []) ∷ node 16877 2 1088 (0 ∷ 13 ∷ 0 ∷ 0 ∷ 0 ∷ 0 ∷ 0 ∷ 0 ∷ 0 ∷ 0 ∷ []) ∷ []) (zone_with 5 (file 1024 (piece 0 (hex 3 0x01002e) ∷ piece 32 (hex 4 0x01002e2e) ∷ piece 64 (hex 3 0x020070) ∷ piece 96 (hex 3 0x030061) ∷ piece 128 (hex 3 0x06006c) ∷ piece 160 (hex 3 0x090072) ∷ [])) ∷ zone_with 6 (file 1024 (piece 0 (hex 3 0x02002e) ∷ piece 32 (hex 4 0x01002e2e) ∷ piece 64 (hex 3 0x040071) ∷ piece 96 (hex 3 0x050062) ∷ [])) ∷ zone_with 8 (file 1024 (piece 0 (hex 3 0x04002e) ∷ piece 32 (hex 4 0x02002e2e) ∷ piece 64 (hex 3 0x070063) ∷ piece 96 (hex 3 0x080064) ∷ [])) ∷ zone_with 13 (file 1024 (piece 0 (hex 3 0x09002e) ∷ piece 32 (hex 4 0x01002e2e) ∷ [])) ∷ []) (1 ∷ 2 ∷ 3 ∷ 4 ∷ 5 ∷ 6 ∷ 7 ∷ 8 ∷ 9 ∷ []) (5 ∷ 6 ∷ 7 ∷ 8 ∷ 9 ∷ 10 ∷ 11 ∷ 12 ∷ 13 ∷ [])) ≡ Ok (found (owned 5 1 false ∷ owned 6 2 false ∷ owned 7 3 false ∷ owned 8 4 false ∷ owned 9 5 false ∷ owned 10 5 false ∷ owned 11 6 false ∷ owned 12 7 false ∷ owned 13 9 false ∷ []) (0 ∷ 1 ∷ 1 ∷ 1 ∷ 1 ∷ 1 ∷ 1 ∷ 1 ∷ 1 ∷ 0 ∷ 0 ∷ 0 ∷ 0 ∷ 0 ∷ 0 ∷ 0 ∷ []))
unfolding number16 number32 is_zero kind_of super_of super_checks super_in super_at v1_inode v2_inode inode_of inode_at inode_place bit with_bit parts_of number_in follow pointer_by inside follow_at zone_at block_at content_at entry_of entry_at find_entry entries_at is_dots zone_number block content entry first_named lookup reached thing names names_in was_reached with_inode survey_walk owner names_of has_name judge judged survey_of is_indirect
minix_survey_hole_in_a_directory_in_version_2_with_long_names_2 = refl

-- moved directory in version 2 with long names
pub minix_survey_moved_directory_in_version_2_with_long_names : survey_found (volume_by (super_with V2Long 16 48 1 1 5) (node 16877 4 192 (5 ∷ 0 ∷ 0 ∷ 0 ∷ 0 ∷ 0 ∷ 0 ∷ 0 ∷ 0 ∷ 0 ∷ []) ∷ node 16877 3 128 (6 ∷ 0 ∷ 0 ∷ 0 ∷ 0 ∷ 0 ∷ 0 ∷ 0 ∷ 0 ∷ 0 ∷ []) ∷ node 33188 1 4 (7 ∷ 0 ∷ 0 ∷ 0 ∷ 0 ∷ 0 ∷ 0 ∷ 0 ∷ 0 ∷ 0 ∷ []) ∷ node 16877 2 128 (8 ∷ 0 ∷ 0 ∷ 0 ∷ 0 ∷ 0 ∷ 0 ∷ 0 ∷ 0 ∷ 0 ∷ []) ∷ node 33188 1 2000 (9 ∷ 10 ∷ 0 ∷ 0 ∷ 0 ∷ 0 ∷ 0 ∷ 0 ∷ 0 ∷ 0 ∷ []) ∷ node 41471 1 3 (11 ∷ 0 ∷ 0 ∷ 0 ∷ 0 ∷ 0 ∷ 0 ∷ 0 ∷ 0 ∷ 0 ∷ []) ∷ node 33188 1 1 (12 ∷ 0 ∷ 0 ∷ 0 ∷ 0 ∷ 0 ∷ 0 ∷ 0 ∷ 0 ∷ 0 ∷ []) ∷ node 33188 1 0 (0 ∷ 0 ∷ 0 ∷ 0 ∷ 0 ∷ 0 ∷ 0 ∷ 0 ∷ 0 ∷ 0 ∷ []) ∷ node 16877 2 64 (13 ∷ 0 ∷ 0 ∷ 0 ∷ 0 ∷ 0 ∷ 0 ∷ 0 ∷ 0 ∷ 0 ∷ []) ∷ []) (zone_with 5 (file 1024 (piece 0 (hex 3 0x01002e) ∷ piece 32 (hex 4 0x01002e2e) ∷ piece 64 (hex 3 0x020070) ∷ piece 96 (hex 3 0x030061) ∷ piece 128 (hex 3 0x06006c) ∷ piece 160 (hex 4 0x04007570) ∷ [])) ∷ zone_with 6 (file 1024 (piece 0 (hex 3 0x02002e) ∷ piece 32 (hex 4 0x01002e2e) ∷ piece 64 (hex 3 0x040071) ∷ piece 96 (hex 3 0x050062) ∷ [])) ∷ zone_with 8 (file 1024 (piece 0 (hex 3 0x04002e) ∷ piece 32 (hex 4 0x02002e2e) ∷ piece 64 (hex 3 0x070063) ∷ piece 96 (hex 3 0x080064) ∷ [])) ∷ zone_with 13 (file 1024 (piece 0 (hex 3 0x09002e) ∷ piece 32 (hex 4 0x01002e2e) ∷ [])) ∷ []) (1 ∷ 2 ∷ 3 ∷ 4 ∷ 5 ∷ 6 ∷ 7 ∷ 8 ∷ 9 ∷ []) (5 ∷ 6 ∷ 7 ∷ 8 ∷ 9 ∷ 10 ∷ 11 ∷ 12 ∷ 13 ∷ [])) ≡ Err (BadLink 1 5)
unfolding number16 number32 is_zero kind_of super_of super_checks super_in super_at v1_inode v2_inode inode_of inode_at inode_place bit with_bit parts_of number_in follow pointer_by inside follow_at zone_at block_at content_at entry_of entry_at find_entry entries_at is_dots zone_number block content entry first_named lookup reached thing names names_in was_reached with_inode survey_walk owner names_of has_name judge judged survey_of is_indirect
minix_survey_moved_directory_in_version_2_with_long_names = refl

-- moved directory in version 2 with long names
pub minix_survey_moved_directory_in_version_2_with_long_names_2 : survey_found (volume_by (super_with V2Long 16 48 1 1 5) (node 16877 4 192 (5 ∷ 0 ∷ 0 ∷ 0 ∷ 0 ∷ 0 ∷ 0 ∷ 0 ∷ 0 ∷ 0 ∷ []) ∷ node 16877 3 128 (6 ∷ 0 ∷ 0 ∷ 0 ∷ 0 ∷ 0 ∷ 0 ∷ 0 ∷ 0 ∷ 0 ∷ []) ∷ node 33188 1 4 (7 ∷ 0 ∷ 0 ∷ 0 ∷ 0 ∷ 0 ∷ 0 ∷ 0 ∷ 0 ∷ 0 ∷ []) ∷ node 16877 2 128 (8 ∷ 0 ∷ 0 ∷ 0 ∷ 0 ∷ 0 ∷ 0 ∷ 0 ∷ 0 ∷ 0 ∷ []) ∷ node 33188 1 2000 (9 ∷ 10 ∷ 0 ∷ 0 ∷ 0 ∷ 0 ∷ 0 ∷ 0 ∷ 0 ∷ 0 ∷ []) ∷ node 41471 1 3 (11 ∷ 0 ∷ 0 ∷ 0 ∷ 0 ∷ 0 ∷ 0 ∷ 0 ∷ 0 ∷ 0 ∷ []) ∷ node 33188 1 1 (12 ∷ 0 ∷ 0 ∷ 0 ∷ 0 ∷ 0 ∷ 0 ∷ 0 ∷ 0 ∷ 0 ∷ []) ∷ node 33188 1 9216 (13 ∷ 14 ∷ 15 ∷ 16 ∷ 17 ∷ 18 ∷ 19 ∷ 22 ∷ 0 ∷ 0 ∷ []) ∷ node 16877 2 64 (23 ∷ 0 ∷ 0 ∷ 0 ∷ 0 ∷ 0 ∷ 0 ∷ 0 ∷ 0 ∷ 0 ∷ []) ∷ []) (zone_with 5 (file 1024 (piece 0 (hex 3 0x01002e) ∷ piece 32 (hex 4 0x01002e2e) ∷ piece 64 (hex 3 0x020070) ∷ piece 96 (hex 3 0x030061) ∷ piece 128 (hex 3 0x06006c) ∷ piece 160 (hex 4 0x04007570) ∷ [])) ∷ zone_with 6 (file 1024 (piece 0 (hex 3 0x02002e) ∷ piece 32 (hex 4 0x01002e2e) ∷ piece 64 (hex 3 0x040071) ∷ piece 96 (hex 3 0x050062) ∷ [])) ∷ zone_with 8 (file 1024 (piece 0 (hex 3 0x04002e) ∷ piece 32 (hex 4 0x02002e2e) ∷ piece 64 (hex 3 0x070063) ∷ piece 96 (hex 5 0x0800626967) ∷ [])) ∷ zone_with 22 (file 1024 (piece 0 (hex 5 0x1400000015) ∷ [])) ∷ zone_with 23 (file 1024 (piece 0 (hex 3 0x09002e) ∷ piece 32 (hex 4 0x01002e2e) ∷ [])) ∷ []) (1 ∷ 2 ∷ 3 ∷ 4 ∷ 5 ∷ 6 ∷ 7 ∷ 8 ∷ 9 ∷ []) (5 ∷ 6 ∷ 7 ∷ 8 ∷ 9 ∷ 10 ∷ 11 ∷ 12 ∷ 13 ∷ 14 ∷ 15 ∷ 16 ∷ 17 ∷ 18 ∷ 19 ∷ 20 ∷ 21 ∷ 22 ∷ 23 ∷ [])) ≡ Err (BadLink 1 5)
unfolding number16 number32 is_zero kind_of super_of super_checks super_in super_at v1_inode v2_inode inode_of inode_at inode_place bit with_bit parts_of number_in follow pointer_by inside follow_at zone_at block_at content_at entry_of entry_at find_entry entries_at is_dots zone_number block content entry first_named lookup reached thing names names_in was_reached with_inode survey_walk owner names_of has_name judge judged survey_of is_indirect
minix_survey_moved_directory_in_version_2_with_long_names_2 = refl

-- entry to a free inode in version 2 with long names
pub minix_survey_entry_to_a_free_inode_in_version_2_with_long_names : survey_found (volume_by (super_with V2Long 16 48 1 1 5) (node 16877 4 192 (5 ∷ 0 ∷ 0 ∷ 0 ∷ 0 ∷ 0 ∷ 0 ∷ 0 ∷ 0 ∷ 0 ∷ []) ∷ node 16877 3 128 (6 ∷ 0 ∷ 0 ∷ 0 ∷ 0 ∷ 0 ∷ 0 ∷ 0 ∷ 0 ∷ 0 ∷ []) ∷ node 33188 1 4 (7 ∷ 0 ∷ 0 ∷ 0 ∷ 0 ∷ 0 ∷ 0 ∷ 0 ∷ 0 ∷ 0 ∷ []) ∷ node 16877 2 128 (8 ∷ 0 ∷ 0 ∷ 0 ∷ 0 ∷ 0 ∷ 0 ∷ 0 ∷ 0 ∷ 0 ∷ []) ∷ node 33188 1 2000 (9 ∷ 10 ∷ 0 ∷ 0 ∷ 0 ∷ 0 ∷ 0 ∷ 0 ∷ 0 ∷ 0 ∷ []) ∷ node 41471 1 3 (11 ∷ 0 ∷ 0 ∷ 0 ∷ 0 ∷ 0 ∷ 0 ∷ 0 ∷ 0 ∷ 0 ∷ []) ∷ node 33188 1 1 (12 ∷ 0 ∷ 0 ∷ 0 ∷ 0 ∷ 0 ∷ 0 ∷ 0 ∷ 0 ∷ 0 ∷ []) ∷ node 33188 1 0 (0 ∷ 0 ∷ 0 ∷ 0 ∷ 0 ∷ 0 ∷ 0 ∷ 0 ∷ 0 ∷ 0 ∷ []) ∷ node 16877 2 64 (13 ∷ 0 ∷ 0 ∷ 0 ∷ 0 ∷ 0 ∷ 0 ∷ 0 ∷ 0 ∷ 0 ∷ []) ∷ []) (zone_with 5 (file 1024 (piece 0 (hex 3 0x01002e) ∷ piece 32 (hex 4 0x01002e2e) ∷ piece 64 (hex 3 0x020070) ∷ piece 96 (hex 3 0x030061) ∷ piece 128 (hex 3 0x06006c) ∷ piece 160 (hex 3 0x090072) ∷ [])) ∷ zone_with 6 (file 1024 (piece 0 (hex 3 0x02002e) ∷ piece 32 (hex 4 0x01002e2e) ∷ piece 64 (hex 6 0x100066726565) ∷ piece 96 (hex 3 0x050062) ∷ [])) ∷ zone_with 8 (file 1024 (piece 0 (hex 3 0x04002e) ∷ piece 32 (hex 4 0x02002e2e) ∷ piece 64 (hex 3 0x070063) ∷ piece 96 (hex 3 0x080064) ∷ [])) ∷ zone_with 13 (file 1024 (piece 0 (hex 3 0x09002e) ∷ piece 32 (hex 4 0x01002e2e) ∷ [])) ∷ []) (1 ∷ 2 ∷ 3 ∷ 4 ∷ 5 ∷ 6 ∷ 7 ∷ 8 ∷ 9 ∷ []) (5 ∷ 6 ∷ 7 ∷ 8 ∷ 9 ∷ 10 ∷ 11 ∷ 12 ∷ 13 ∷ [])) ≡ Err (BadLink 2 2)
unfolding number16 number32 is_zero kind_of super_of super_checks super_in super_at v1_inode v2_inode inode_of inode_at inode_place bit with_bit parts_of number_in follow pointer_by inside follow_at zone_at block_at content_at entry_of entry_at find_entry entries_at is_dots zone_number block content entry first_named lookup reached thing names names_in was_reached with_inode survey_walk owner names_of has_name judge judged survey_of is_indirect
minix_survey_entry_to_a_free_inode_in_version_2_with_long_names = refl

-- entry to a free inode and then a second . in version 2 with long names
pub minix_survey_entry_to_a_free_inode_and_then_a_second_dot_in_version_2_with_long_names : survey_found (volume_by (super_with V2Long 16 48 1 1 5) (node 16877 4 192 (5 ∷ 0 ∷ 0 ∷ 0 ∷ 0 ∷ 0 ∷ 0 ∷ 0 ∷ 0 ∷ 0 ∷ []) ∷ node 16877 3 128 (6 ∷ 0 ∷ 0 ∷ 0 ∷ 0 ∷ 0 ∷ 0 ∷ 0 ∷ 0 ∷ 0 ∷ []) ∷ node 33188 1 4 (7 ∷ 0 ∷ 0 ∷ 0 ∷ 0 ∷ 0 ∷ 0 ∷ 0 ∷ 0 ∷ 0 ∷ []) ∷ node 16877 2 160 (8 ∷ 0 ∷ 0 ∷ 0 ∷ 0 ∷ 0 ∷ 0 ∷ 0 ∷ 0 ∷ 0 ∷ []) ∷ node 33188 1 2000 (9 ∷ 10 ∷ 0 ∷ 0 ∷ 0 ∷ 0 ∷ 0 ∷ 0 ∷ 0 ∷ 0 ∷ []) ∷ node 41471 1 3 (11 ∷ 0 ∷ 0 ∷ 0 ∷ 0 ∷ 0 ∷ 0 ∷ 0 ∷ 0 ∷ 0 ∷ []) ∷ node 33188 1 1 (12 ∷ 0 ∷ 0 ∷ 0 ∷ 0 ∷ 0 ∷ 0 ∷ 0 ∷ 0 ∷ 0 ∷ []) ∷ node 33188 1 9216 (13 ∷ 14 ∷ 15 ∷ 16 ∷ 17 ∷ 18 ∷ 19 ∷ 22 ∷ 0 ∷ 0 ∷ []) ∷ node 16877 2 64 (23 ∷ 0 ∷ 0 ∷ 0 ∷ 0 ∷ 0 ∷ 0 ∷ 0 ∷ 0 ∷ 0 ∷ []) ∷ []) (zone_with 5 (file 1024 (piece 0 (hex 3 0x01002e) ∷ piece 32 (hex 4 0x01002e2e) ∷ piece 64 (hex 3 0x020070) ∷ piece 96 (hex 3 0x030061) ∷ piece 128 (hex 3 0x06006c) ∷ piece 160 (hex 3 0x090072) ∷ [])) ∷ zone_with 6 (file 1024 (piece 0 (hex 3 0x02002e) ∷ piece 32 (hex 4 0x01002e2e) ∷ piece 64 (hex 3 0x040071) ∷ piece 96 (hex 3 0x050062) ∷ [])) ∷ zone_with 8 (file 1024 (piece 0 (hex 3 0x04002e) ∷ piece 32 (hex 4 0x02002e2e) ∷ piece 64 (hex 3 0x070063) ∷ piece 96 (hex 5 0x0800626967) ∷ piece 128 (hex 3 0x04002e) ∷ [])) ∷ zone_with 22 (file 1024 (piece 0 (hex 5 0x1400000015) ∷ [])) ∷ zone_with 23 (file 1024 (piece 0 (hex 3 0x09002e) ∷ piece 32 (hex 6 0x100066726565) ∷ [])) ∷ []) (1 ∷ 2 ∷ 3 ∷ 4 ∷ 5 ∷ 6 ∷ 7 ∷ 8 ∷ 9 ∷ []) (5 ∷ 6 ∷ 7 ∷ 8 ∷ 9 ∷ 10 ∷ 11 ∷ 12 ∷ 13 ∷ 14 ∷ 15 ∷ 16 ∷ 17 ∷ 18 ∷ 19 ∷ 20 ∷ 21 ∷ 22 ∷ 23 ∷ [])) ≡ Err (BadLink 4 4)
unfolding number16 number32 is_zero kind_of super_of super_checks super_in super_at v1_inode v2_inode inode_of inode_at inode_place bit with_bit parts_of number_in follow pointer_by inside follow_at zone_at block_at content_at entry_of entry_at find_entry entries_at is_dots zone_number block content entry first_named lookup reached thing names names_in was_reached with_inode survey_walk owner names_of has_name judge judged survey_of is_indirect
minix_survey_entry_to_a_free_inode_and_then_a_second_dot_in_version_2_with_long_names = refl

-- a directory nested below 64 others
pub minix_survey_a_directory_nested_below_64_others : survey_found (volume_by (super_with V1Short 80 128 1 1 7) (node 16877 3 48 (7 ∷ 0 ∷ 0 ∷ 0 ∷ 0 ∷ 0 ∷ 0 ∷ 0 ∷ 0 ∷ 0 ∷ []) ∷ node 16877 3 48 (8 ∷ 0 ∷ 0 ∷ 0 ∷ 0 ∷ 0 ∷ 0 ∷ 0 ∷ 0 ∷ 0 ∷ []) ∷ node 16877 3 48 (9 ∷ 0 ∷ 0 ∷ 0 ∷ 0 ∷ 0 ∷ 0 ∷ 0 ∷ 0 ∷ 0 ∷ []) ∷ node 16877 3 48 (10 ∷ 0 ∷ 0 ∷ 0 ∷ 0 ∷ 0 ∷ 0 ∷ 0 ∷ 0 ∷ 0 ∷ []) ∷ node 16877 3 48 (11 ∷ 0 ∷ 0 ∷ 0 ∷ 0 ∷ 0 ∷ 0 ∷ 0 ∷ 0 ∷ 0 ∷ []) ∷ node 16877 3 48 (12 ∷ 0 ∷ 0 ∷ 0 ∷ 0 ∷ 0 ∷ 0 ∷ 0 ∷ 0 ∷ 0 ∷ []) ∷ node 16877 3 48 (13 ∷ 0 ∷ 0 ∷ 0 ∷ 0 ∷ 0 ∷ 0 ∷ 0 ∷ 0 ∷ 0 ∷ []) ∷ node 16877 3 48 (14 ∷ 0 ∷ 0 ∷ 0 ∷ 0 ∷ 0 ∷ 0 ∷ 0 ∷ 0 ∷ 0 ∷ []) ∷ node 16877 3 48 (15 ∷ 0 ∷ 0 ∷ 0 ∷ 0 ∷ 0 ∷ 0 ∷ 0 ∷ 0 ∷ 0 ∷ []) ∷ node 16877 3 48 (16 ∷ 0 ∷ 0 ∷ 0 ∷ 0 ∷ 0 ∷ 0 ∷ 0 ∷ 0 ∷ 0 ∷ []) ∷ node 16877 3 48 (17 ∷ 0 ∷ 0 ∷ 0 ∷ 0 ∷ 0 ∷ 0 ∷ 0 ∷ 0 ∷ 0 ∷ []) ∷ node 16877 3 48 (18 ∷ 0 ∷ 0 ∷ 0 ∷ 0 ∷ 0 ∷ 0 ∷ 0 ∷ 0 ∷ 0 ∷ []) ∷ node 16877 3 48 (19 ∷ 0 ∷ 0 ∷ 0 ∷ 0 ∷ 0 ∷ 0 ∷ 0 ∷ 0 ∷ 0 ∷ []) ∷ node 16877 3 48 (20 ∷ 0 ∷ 0 ∷ 0 ∷ 0 ∷ 0 ∷ 0 ∷ 0 ∷ 0 ∷ 0 ∷ []) ∷ node 16877 3 48 (21 ∷ 0 ∷ 0 ∷ 0 ∷ 0 ∷ 0 ∷ 0 ∷ 0 ∷ 0 ∷ 0 ∷ []) ∷ node 16877 3 48 (22 ∷ 0 ∷ 0 ∷ 0 ∷ 0 ∷ 0 ∷ 0 ∷ 0 ∷ 0 ∷ 0 ∷ []) ∷ node 16877 3 48 (23 ∷ 0 ∷ 0 ∷ 0 ∷ 0 ∷ 0 ∷ 0 ∷ 0 ∷ 0 ∷ 0 ∷ []) ∷ node 16877 3 48 (24 ∷ 0 ∷ 0 ∷ 0 ∷ 0 ∷ 0 ∷ 0 ∷ 0 ∷ 0 ∷ 0 ∷ []) ∷ node 16877 3 48 (25 ∷ 0 ∷ 0 ∷ 0 ∷ 0 ∷ 0 ∷ 0 ∷ 0 ∷ 0 ∷ 0 ∷ []) ∷ node 16877 3 48 (26 ∷ 0 ∷ 0 ∷ 0 ∷ 0 ∷ 0 ∷ 0 ∷ 0 ∷ 0 ∷ 0 ∷ []) ∷ node 16877 3 48 (27 ∷ 0 ∷ 0 ∷ 0 ∷ 0 ∷ 0 ∷ 0 ∷ 0 ∷ 0 ∷ 0 ∷ []) ∷ node 16877 3 48 (28 ∷ 0 ∷ 0 ∷ 0 ∷ 0 ∷ 0 ∷ 0 ∷ 0 ∷ 0 ∷ 0 ∷ []) ∷ node 16877 3 48 (29 ∷ 0 ∷ 0 ∷ 0 ∷ 0 ∷ 0 ∷ 0 ∷ 0 ∷ 0 ∷ 0 ∷ []) ∷ node 16877 3 48 (30 ∷ 0 ∷ 0 ∷ 0 ∷ 0 ∷ 0 ∷ 0 ∷ 0 ∷ 0 ∷ 0 ∷ []) ∷ node 16877 3 48 (31 ∷ 0 ∷ 0 ∷ 0 ∷ 0 ∷ 0 ∷ 0 ∷ 0 ∷ 0 ∷ 0 ∷ []) ∷ node 16877 3 48 (32 ∷ 0 ∷ 0 ∷ 0 ∷ 0 ∷ 0 ∷ 0 ∷ 0 ∷ 0 ∷ 0 ∷ []) ∷ node 16877 3 48 (33 ∷ 0 ∷ 0 ∷ 0 ∷ 0 ∷ 0 ∷ 0 ∷ 0 ∷ 0 ∷ 0 ∷ []) ∷ node 16877 3 48 (34 ∷ 0 ∷ 0 ∷ 0 ∷ 0 ∷ 0 ∷ 0 ∷ 0 ∷ 0 ∷ 0 ∷ []) ∷ node 16877 3 48 (35 ∷ 0 ∷ 0 ∷ 0 ∷ 0 ∷ 0 ∷ 0 ∷ 0 ∷ 0 ∷ 0 ∷ []) ∷ node 16877 3 48 (36 ∷ 0 ∷ 0 ∷ 0 ∷ 0 ∷ 0 ∷ 0 ∷ 0 ∷ 0 ∷ 0 ∷ []) ∷ node 16877 3 48 (37 ∷ 0 ∷ 0 ∷ 0 ∷ 0 ∷ 0 ∷ 0 ∷ 0 ∷ 0 ∷ 0 ∷ []) ∷ node 16877 3 48 (38 ∷ 0 ∷ 0 ∷ 0 ∷ 0 ∷ 0 ∷ 0 ∷ 0 ∷ 0 ∷ 0 ∷ []) ∷ node 16877 3 48 (39 ∷ 0 ∷ 0 ∷ 0 ∷ 0 ∷ 0 ∷ 0 ∷ 0 ∷ 0 ∷ 0 ∷ []) ∷ node 16877 3 48 (40 ∷ 0 ∷ 0 ∷ 0 ∷ 0 ∷ 0 ∷ 0 ∷ 0 ∷ 0 ∷ 0 ∷ []) ∷ node 16877 3 48 (41 ∷ 0 ∷ 0 ∷ 0 ∷ 0 ∷ 0 ∷ 0 ∷ 0 ∷ 0 ∷ 0 ∷ []) ∷ node 16877 3 48 (42 ∷ 0 ∷ 0 ∷ 0 ∷ 0 ∷ 0 ∷ 0 ∷ 0 ∷ 0 ∷ 0 ∷ []) ∷ node 16877 3 48 (43 ∷ 0 ∷ 0 ∷ 0 ∷ 0 ∷ 0 ∷ 0 ∷ 0 ∷ 0 ∷ 0 ∷ []) ∷ node 16877 3 48 (44 ∷ 0 ∷ 0 ∷ 0 ∷ 0 ∷ 0 ∷ 0 ∷ 0 ∷ 0 ∷ 0 ∷ []) ∷ node 16877 3 48 (45 ∷ 0 ∷ 0 ∷ 0 ∷ 0 ∷ 0 ∷ 0 ∷ 0 ∷ 0 ∷ 0 ∷ []) ∷ node 16877 3 48 (46 ∷ 0 ∷ 0 ∷ 0 ∷ 0 ∷ 0 ∷ 0 ∷ 0 ∷ 0 ∷ 0 ∷ []) ∷ node 16877 3 48 (47 ∷ 0 ∷ 0 ∷ 0 ∷ 0 ∷ 0 ∷ 0 ∷ 0 ∷ 0 ∷ 0 ∷ []) ∷ node 16877 3 48 (48 ∷ 0 ∷ 0 ∷ 0 ∷ 0 ∷ 0 ∷ 0 ∷ 0 ∷ 0 ∷ 0 ∷ []) ∷ node 16877 3 48 (49 ∷ 0 ∷ 0 ∷ 0 ∷ 0 ∷ 0 ∷ 0 ∷ 0 ∷ 0 ∷ 0 ∷ []) ∷ node 16877 3 48 (50 ∷ 0 ∷ 0 ∷ 0 ∷ 0 ∷ 0 ∷ 0 ∷ 0 ∷ 0 ∷ 0 ∷ []) ∷ node 16877 3 48 (51 ∷ 0 ∷ 0 ∷ 0 ∷ 0 ∷ 0 ∷ 0 ∷ 0 ∷ 0 ∷ 0 ∷ []) ∷ node 16877 3 48 (52 ∷ 0 ∷ 0 ∷ 0 ∷ 0 ∷ 0 ∷ 0 ∷ 0 ∷ 0 ∷ 0 ∷ []) ∷ node 16877 3 48 (53 ∷ 0 ∷ 0 ∷ 0 ∷ 0 ∷ 0 ∷ 0 ∷ 0 ∷ 0 ∷ 0 ∷ []) ∷ node 16877 3 48 (54 ∷ 0 ∷ 0 ∷ 0 ∷ 0 ∷ 0 ∷ 0 ∷ 0 ∷ 0 ∷ 0 ∷ []) ∷ node 16877 3 48 (55 ∷ 0 ∷ 0 ∷ 0 ∷ 0 ∷ 0 ∷ 0 ∷ 0 ∷ 0 ∷ 0 ∷ []) ∷ node 16877 3 48 (56 ∷ 0 ∷ 0 ∷ 0 ∷ 0 ∷ 0 ∷ 0 ∷ 0 ∷ 0 ∷ 0 ∷ []) ∷ node 16877 3 48 (57 ∷ 0 ∷ 0 ∷ 0 ∷ 0 ∷ 0 ∷ 0 ∷ 0 ∷ 0 ∷ 0 ∷ []) ∷ node 16877 3 48 (58 ∷ 0 ∷ 0 ∷ 0 ∷ 0 ∷ 0 ∷ 0 ∷ 0 ∷ 0 ∷ 0 ∷ []) ∷ node 16877 3 48 (59 ∷ 0 ∷ 0 ∷ 0 ∷ 0 ∷ 0 ∷ 0 ∷ 0 ∷ 0 ∷ 0 ∷ []) ∷ node 16877 3 48 (60 ∷ 0 ∷ 0 ∷ 0 ∷ 0 ∷ 0 ∷ 0 ∷ 0 ∷ 0 ∷ 0 ∷ []) ∷ node 16877 3 48 (61 ∷ 0 ∷ 0 ∷ 0 ∷ 0 ∷ 0 ∷ 0 ∷ 0 ∷ 0 ∷ 0 ∷ []) ∷ node 16877 3 48 (62 ∷ 0 ∷ 0 ∷ 0 ∷ 0 ∷ 0 ∷ 0 ∷ 0 ∷ 0 ∷ 0 ∷ []) ∷ node 16877 3 48 (63 ∷ 0 ∷ 0 ∷ 0 ∷ 0 ∷ 0 ∷ 0 ∷ 0 ∷ 0 ∷ 0 ∷ []) ∷ node 16877 3 48 (64 ∷ 0 ∷ 0 ∷ 0 ∷ 0 ∷ 0 ∷ 0 ∷ 0 ∷ 0 ∷ 0 ∷ []) ∷ node 16877 3 48 (65 ∷ 0 ∷ 0 ∷ 0 ∷ 0 ∷ 0 ∷ 0 ∷ 0 ∷ 0 ∷ 0 ∷ []) ∷ node 16877 3 48 (66 ∷ 0 ∷ 0 ∷ 0 ∷ 0 ∷ 0 ∷ 0 ∷ 0 ∷ 0 ∷ 0 ∷ []) ∷ node 16877 3 48 (67 ∷ 0 ∷ 0 ∷ 0 ∷ 0 ∷ 0 ∷ 0 ∷ 0 ∷ 0 ∷ 0 ∷ []) ∷ node 16877 3 48 (68 ∷ 0 ∷ 0 ∷ 0 ∷ 0 ∷ 0 ∷ 0 ∷ 0 ∷ 0 ∷ 0 ∷ []) ∷ node 16877 3 48 (69 ∷ 0 ∷ 0 ∷ 0 ∷ 0 ∷ 0 ∷ 0 ∷ 0 ∷ 0 ∷ 0 ∷ []) ∷ node 16877 3 48 (70 ∷ 0 ∷ 0 ∷ 0 ∷ 0 ∷ 0 ∷ 0 ∷ 0 ∷ 0 ∷ 0 ∷ []) ∷ node 16877 2 32 (71 ∷ 0 ∷ 0 ∷ 0 ∷ 0 ∷ 0 ∷ 0 ∷ 0 ∷ 0 ∷ 0 ∷ []) ∷ []) (zone_with 7 (file 1024 (piece 0 (hex 3 0x01002e) ∷ piece 16 (hex 4 0x01002e2e) ∷ piece 32 (hex 3 0x020064) ∷ [])) ∷ zone_with 8 (file 1024 (piece 0 (hex 3 0x02002e) ∷ piece 16 (hex 4 0x01002e2e) ∷ piece 32 (hex 3 0x030064) ∷ [])) ∷ zone_with 9 (file 1024 (piece 0 (hex 3 0x03002e) ∷ piece 16 (hex 4 0x02002e2e) ∷ piece 32 (hex 3 0x040064) ∷ [])) ∷ zone_with 10 (file 1024 (piece 0 (hex 3 0x04002e) ∷ piece 16 (hex 4 0x03002e2e) ∷ piece 32 (hex 3 0x050064) ∷ [])) ∷ zone_with 11 (file 1024 (piece 0 (hex 3 0x05002e) ∷ piece 16 (hex 4 0x04002e2e) ∷ piece 32 (hex 3 0x060064) ∷ [])) ∷ zone_with 12 (file 1024 (piece 0 (hex 3 0x06002e) ∷ piece 16 (hex 4 0x05002e2e) ∷ piece 32 (hex 3 0x070064) ∷ [])) ∷ zone_with 13 (file 1024 (piece 0 (hex 3 0x07002e) ∷ piece 16 (hex 4 0x06002e2e) ∷ piece 32 (hex 3 0x080064) ∷ [])) ∷ zone_with 14 (file 1024 (piece 0 (hex 3 0x08002e) ∷ piece 16 (hex 4 0x07002e2e) ∷ piece 32 (hex 3 0x090064) ∷ [])) ∷ zone_with 15 (file 1024 (piece 0 (hex 3 0x09002e) ∷ piece 16 (hex 4 0x08002e2e) ∷ piece 32 (hex 3 0x0a0064) ∷ [])) ∷ zone_with 16 (file 1024 (piece 0 (hex 3 0x0a002e) ∷ piece 16 (hex 4 0x09002e2e) ∷ piece 32 (hex 3 0x0b0064) ∷ [])) ∷ zone_with 17 (file 1024 (piece 0 (hex 3 0x0b002e) ∷ piece 16 (hex 4 0x0a002e2e) ∷ piece 32 (hex 3 0x0c0064) ∷ [])) ∷ zone_with 18 (file 1024 (piece 0 (hex 3 0x0c002e) ∷ piece 16 (hex 4 0x0b002e2e) ∷ piece 32 (hex 3 0x0d0064) ∷ [])) ∷ zone_with 19 (file 1024 (piece 0 (hex 3 0x0d002e) ∷ piece 16 (hex 4 0x0c002e2e) ∷ piece 32 (hex 3 0x0e0064) ∷ [])) ∷ zone_with 20 (file 1024 (piece 0 (hex 3 0x0e002e) ∷ piece 16 (hex 4 0x0d002e2e) ∷ piece 32 (hex 3 0x0f0064) ∷ [])) ∷ zone_with 21 (file 1024 (piece 0 (hex 3 0x0f002e) ∷ piece 16 (hex 4 0x0e002e2e) ∷ piece 32 (hex 3 0x100064) ∷ [])) ∷ zone_with 22 (file 1024 (piece 0 (hex 3 0x10002e) ∷ piece 16 (hex 4 0x0f002e2e) ∷ piece 32 (hex 3 0x110064) ∷ [])) ∷ zone_with 23 (file 1024 (piece 0 (hex 3 0x11002e) ∷ piece 16 (hex 4 0x10002e2e) ∷ piece 32 (hex 3 0x120064) ∷ [])) ∷ zone_with 24 (file 1024 (piece 0 (hex 3 0x12002e) ∷ piece 16 (hex 4 0x11002e2e) ∷ piece 32 (hex 3 0x130064) ∷ [])) ∷ zone_with 25 (file 1024 (piece 0 (hex 3 0x13002e) ∷ piece 16 (hex 4 0x12002e2e) ∷ piece 32 (hex 3 0x140064) ∷ [])) ∷ zone_with 26 (file 1024 (piece 0 (hex 3 0x14002e) ∷ piece 16 (hex 4 0x13002e2e) ∷ piece 32 (hex 3 0x150064) ∷ [])) ∷ zone_with 27 (file 1024 (piece 0 (hex 3 0x15002e) ∷ piece 16 (hex 4 0x14002e2e) ∷ piece 32 (hex 3 0x160064) ∷ [])) ∷ zone_with 28 (file 1024 (piece 0 (hex 3 0x16002e) ∷ piece 16 (hex 4 0x15002e2e) ∷ piece 32 (hex 3 0x170064) ∷ [])) ∷ zone_with 29 (file 1024 (piece 0 (hex 3 0x17002e) ∷ piece 16 (hex 4 0x16002e2e) ∷ piece 32 (hex 3 0x180064) ∷ [])) ∷ zone_with 30 (file 1024 (piece 0 (hex 3 0x18002e) ∷ piece 16 (hex 4 0x17002e2e) ∷ piece 32 (hex 3 0x190064) ∷ [])) ∷ zone_with 31 (file 1024 (piece 0 (hex 3 0x19002e) ∷ piece 16 (hex 4 0x18002e2e) ∷ piece 32 (hex 3 0x1a0064) ∷ [])) ∷ zone_with 32 (file 1024 (piece 0 (hex 3 0x1a002e) ∷ piece 16 (hex 4 0x19002e2e) ∷ piece 32 (hex 3 0x1b0064) ∷ [])) ∷ zone_with 33 (file 1024 (piece 0 (hex 3 0x1b002e) ∷ piece 16 (hex 4 0x1a002e2e) ∷ piece 32 (hex 3 0x1c0064) ∷ [])) ∷ zone_with 34 (file 1024 (piece 0 (hex 3 0x1c002e) ∷ piece 16 (hex 4 0x1b002e2e) ∷ piece 32 (hex 3 0x1d0064) ∷ [])) ∷ zone_with 35 (file 1024 (piece 0 (hex 3 0x1d002e) ∷ piece 16 (hex 4 0x1c002e2e) ∷ piece 32 (hex 3 0x1e0064) ∷ [])) ∷ zone_with 36 (file 1024 (piece 0 (hex 3 0x1e002e) ∷ piece 16 (hex 4 0x1d002e2e) ∷ piece 32 (hex 3 0x1f0064) ∷ [])) ∷ zone_with 37 (file 1024 (piece 0 (hex 3 0x1f002e) ∷ piece 16 (hex 4 0x1e002e2e) ∷ piece 32 (hex 3 0x200064) ∷ [])) ∷ zone_with 38 (file 1024 (piece 0 (hex 3 0x20002e) ∷ piece 16 (hex 4 0x1f002e2e) ∷ piece 32 (hex 3 0x210064) ∷ [])) ∷ zone_with 39 (file 1024 (piece 0 (hex 3 0x21002e) ∷ piece 16 (hex 4 0x20002e2e) ∷ piece 32 (hex 3 0x220064) ∷ [])) ∷ zone_with 40 (file 1024 (piece 0 (hex 3 0x22002e) ∷ piece 16 (hex 4 0x21002e2e) ∷ piece 32 (hex 3 0x230064) ∷ [])) ∷ zone_with 41 (file 1024 (piece 0 (hex 3 0x23002e) ∷ piece 16 (hex 4 0x22002e2e) ∷ piece 32 (hex 3 0x240064) ∷ [])) ∷ zone_with 42 (file 1024 (piece 0 (hex 3 0x24002e) ∷ piece 16 (hex 4 0x23002e2e) ∷ piece 32 (hex 3 0x250064) ∷ [])) ∷ zone_with 43 (file 1024 (piece 0 (hex 3 0x25002e) ∷ piece 16 (hex 4 0x24002e2e) ∷ piece 32 (hex 3 0x260064) ∷ [])) ∷ zone_with 44 (file 1024 (piece 0 (hex 3 0x26002e) ∷ piece 16 (hex 4 0x25002e2e) ∷ piece 32 (hex 3 0x270064) ∷ [])) ∷ zone_with 45 (file 1024 (piece 0 (hex 3 0x27002e) ∷ piece 16 (hex 4 0x26002e2e) ∷ piece 32 (hex 3 0x280064) ∷ [])) ∷ zone_with 46 (file 1024 (piece 0 (hex 3 0x28002e) ∷ piece 16 (hex 4 0x27002e2e) ∷ piece 32 (hex 3 0x290064) ∷ [])) ∷ zone_with 47 (file 1024 (piece 0 (hex 3 0x29002e) ∷ piece 16 (hex 4 0x28002e2e) ∷ piece 32 (hex 3 0x2a0064) ∷ [])) ∷ zone_with 48 (file 1024 (piece 0 (hex 3 0x2a002e) ∷ piece 16 (hex 4 0x29002e2e) ∷ piece 32 (hex 3 0x2b0064) ∷ [])) ∷ zone_with 49 (file 1024 (piece 0 (hex 3 0x2b002e) ∷ piece 16 (hex 4 0x2a002e2e) ∷ piece 32 (hex 3 0x2c0064) ∷ [])) ∷ zone_with 50 (file 1024 (piece 0 (hex 3 0x2c002e) ∷ piece 16 (hex 4 0x2b002e2e) ∷ piece 32 (hex 3 0x2d0064) ∷ [])) ∷ zone_with 51 (file 1024 (piece 0 (hex 3 0x2d002e) ∷ piece 16 (hex 4 0x2c002e2e) ∷ piece 32 (hex 3 0x2e0064) ∷ [])) ∷ zone_with 52 (file 1024 (piece 0 (hex 3 0x2e002e) ∷ piece 16 (hex 4 0x2d002e2e) ∷ piece 32 (hex 3 0x2f0064) ∷ [])) ∷ zone_with 53 (file 1024 (piece 0 (hex 3 0x2f002e) ∷ piece 16 (hex 4 0x2e002e2e) ∷ piece 32 (hex 3 0x300064) ∷ [])) ∷ zone_with 54 (file 1024 (piece 0 (hex 3 0x30002e) ∷ piece 16 (hex 4 0x2f002e2e) ∷ piece 32 (hex 3 0x310064) ∷ [])) ∷ zone_with 55 (file 1024 (piece 0 (hex 3 0x31002e) ∷ piece 16 (hex 4 0x30002e2e) ∷ piece 32 (hex 3 0x320064) ∷ [])) ∷ zone_with 56 (file 1024 (piece 0 (hex 3 0x32002e) ∷ piece 16 (hex 4 0x31002e2e) ∷ piece 32 (hex 3 0x330064) ∷ [])) ∷ zone_with 57 (file 1024 (piece 0 (hex 3 0x33002e) ∷ piece 16 (hex 4 0x32002e2e) ∷ piece 32 (hex 3 0x340064) ∷ [])) ∷ zone_with 58 (file 1024 (piece 0 (hex 3 0x34002e) ∷ piece 16 (hex 4 0x33002e2e) ∷ piece 32 (hex 3 0x350064) ∷ [])) ∷ zone_with 59 (file 1024 (piece 0 (hex 3 0x35002e) ∷ piece 16 (hex 4 0x34002e2e) ∷ piece 32 (hex 3 0x360064) ∷ [])) ∷ zone_with 60 (file 1024 (piece 0 (hex 3 0x36002e) ∷ piece 16 (hex 4 0x35002e2e) ∷ piece 32 (hex 3 0x370064) ∷ [])) ∷ zone_with 61 (file 1024 (piece 0 (hex 3 0x37002e) ∷ piece 16 (hex 4 0x36002e2e) ∷ piece 32 (hex 3 0x380064) ∷ [])) ∷ zone_with 62 (file 1024 (piece 0 (hex 3 0x38002e) ∷ piece 16 (hex 4 0x37002e2e) ∷ piece 32 (hex 3 0x390064) ∷ [])) ∷ zone_with 63 (file 1024 (piece 0 (hex 3 0x39002e) ∷ piece 16 (hex 4 0x38002e2e) ∷ piece 32 (hex 3 0x3a0064) ∷ [])) ∷ zone_with 64 (file 1024 (piece 0 (hex 3 0x3a002e) ∷ piece 16 (hex 4 0x39002e2e) ∷ piece 32 (hex 3 0x3b0064) ∷ [])) ∷ zone_with 65 (file 1024 (piece 0 (hex 3 0x3b002e) ∷ piece 16 (hex 4 0x3a002e2e) ∷ piece 32 (hex 3 0x3c0064) ∷ [])) ∷ zone_with 66 (file 1024 (piece 0 (hex 3 0x3c002e) ∷ piece 16 (hex 4 0x3b002e2e) ∷ piece 32 (hex 3 0x3d0064) ∷ [])) ∷ zone_with 67 (file 1024 (piece 0 (hex 3 0x3d002e) ∷ piece 16 (hex 4 0x3c002e2e) ∷ piece 32 (hex 3 0x3e0064) ∷ [])) ∷ zone_with 68 (file 1024 (piece 0 (hex 3 0x3e002e) ∷ piece 16 (hex 4 0x3d002e2e) ∷ piece 32 (hex 3 0x3f0064) ∷ [])) ∷ zone_with 69 (file 1024 (piece 0 (hex 3 0x3f002e) ∷ piece 16 (hex 4 0x3e002e2e) ∷ piece 32 (hex 3 0x400064) ∷ [])) ∷ zone_with 70 (file 1024 (piece 0 (hex 3 0x40002e) ∷ piece 16 (hex 4 0x3f002e2e) ∷ piece 32 (hex 3 0x410064) ∷ [])) ∷ zone_with 71 (file 1024 (piece 0 (hex 3 0x41002e) ∷ piece 16 (hex 4 0x40002e2e) ∷ [])) ∷ []) (1 ∷ 2 ∷ 3 ∷ 4 ∷ 5 ∷ 6 ∷ 7 ∷ 8 ∷ 9 ∷ 10 ∷ 11 ∷ 12 ∷ 13 ∷ 14 ∷ 15 ∷ 16 ∷ 17 ∷ 18 ∷ 19 ∷ 20 ∷ 21 ∷ 22 ∷ 23 ∷ 24 ∷ 25 ∷ 26 ∷ 27 ∷ 28 ∷ 29 ∷ 30 ∷ 31 ∷ 32 ∷ 33 ∷ 34 ∷ 35 ∷ 36 ∷ 37 ∷ 38 ∷ 39 ∷ 40 ∷ 41 ∷ 42 ∷ 43 ∷ 44 ∷ 45 ∷ 46 ∷ 47 ∷ 48 ∷ 49 ∷ 50 ∷ 51 ∷ 52 ∷ 53 ∷ 54 ∷ 55 ∷ 56 ∷ 57 ∷ 58 ∷ 59 ∷ 60 ∷ 61 ∷ 62 ∷ 63 ∷ 64 ∷ 65 ∷ []) (7 ∷ 8 ∷ 9 ∷ 10 ∷ 11 ∷ 12 ∷ 13 ∷ 14 ∷ 15 ∷ 16 ∷ 17 ∷ 18 ∷ 19 ∷ 20 ∷ 21 ∷ 22 ∷ 23 ∷ 24 ∷ 25 ∷ 26 ∷ 27 ∷ 28 ∷ 29 ∷ 30 ∷ 31 ∷ 32 ∷ 33 ∷ 34 ∷ 35 ∷ 36 ∷ 37 ∷ 38 ∷ 39 ∷ 40 ∷ 41 ∷ 42 ∷ 43 ∷ 44 ∷ 45 ∷ 46 ∷ 47 ∷ 48 ∷ 49 ∷ 50 ∷ 51 ∷ 52 ∷ 53 ∷ 54 ∷ 55 ∷ 56 ∷ 57 ∷ 58 ∷ 59 ∷ 60 ∷ 61 ∷ 62 ∷ 63 ∷ 64 ∷ 65 ∷ 66 ∷ 67 ∷ 68 ∷ 69 ∷ 70 ∷ 71 ∷ [])) ≡ Ok (found (owned 7 1 false ∷ owned 8 2 false ∷ owned 9 3 false ∷ owned 10 4 false ∷ owned 11 5 false ∷ owned 12 6 false ∷ owned 13 7 false ∷ owned 14 8 false ∷ owned 15 9 false ∷ owned 16 10 false ∷ owned 17 11 false ∷ owned 18 12 false ∷ owned 19 13 false ∷ owned 20 14 false ∷ owned 21 15 false ∷ owned 22 16 false ∷ owned 23 17 false ∷ owned 24 18 false ∷ owned 25 19 false ∷ owned 26 20 false ∷ owned 27 21 false ∷ owned 28 22 false ∷ owned 29 23 false ∷ owned 30 24 false ∷ owned 31 25 false ∷ owned 32 26 false ∷ owned 33 27 false ∷ owned 34 28 false ∷ owned 35 29 false ∷ owned 36 30 false ∷ owned 37 31 false ∷ owned 38 32 false ∷ owned 39 33 false ∷ owned 40 34 false ∷ owned 41 35 false ∷ owned 42 36 false ∷ owned 43 37 false ∷ owned 44 38 false ∷ owned 45 39 false ∷ owned 46 40 false ∷ owned 47 41 false ∷ owned 48 42 false ∷ owned 49 43 false ∷ owned 50 44 false ∷ owned 51 45 false ∷ owned 52 46 false ∷ owned 53 47 false ∷ owned 54 48 false ∷ owned 55 49 false ∷ owned 56 50 false ∷ owned 57 51 false ∷ owned 58 52 false ∷ owned 59 53 false ∷ owned 60 54 false ∷ owned 61 55 false ∷ owned 62 56 false ∷ owned 63 57 false ∷ owned 64 58 false ∷ owned 65 59 false ∷ owned 66 60 false ∷ owned 67 61 false ∷ owned 68 62 false ∷ owned 69 63 false ∷ owned 70 64 false ∷ owned 71 65 false ∷ []) (0 ∷ 1 ∷ 1 ∷ 1 ∷ 1 ∷ 1 ∷ 1 ∷ 1 ∷ 1 ∷ 1 ∷ 1 ∷ 1 ∷ 1 ∷ 1 ∷ 1 ∷ 1 ∷ 1 ∷ 1 ∷ 1 ∷ 1 ∷ 1 ∷ 1 ∷ 1 ∷ 1 ∷ 1 ∷ 1 ∷ 1 ∷ 1 ∷ 1 ∷ 1 ∷ 1 ∷ 1 ∷ 1 ∷ 1 ∷ 1 ∷ 1 ∷ 1 ∷ 1 ∷ 1 ∷ 1 ∷ 1 ∷ 1 ∷ 1 ∷ 1 ∷ 1 ∷ 1 ∷ 1 ∷ 1 ∷ 1 ∷ 1 ∷ 1 ∷ 1 ∷ 1 ∷ 1 ∷ 1 ∷ 1 ∷ 1 ∷ 1 ∷ 1 ∷ 1 ∷ 1 ∷ 1 ∷ 1 ∷ 1 ∷ 1 ∷ 0 ∷ 0 ∷ 0 ∷ 0 ∷ 0 ∷ 0 ∷ 0 ∷ 0 ∷ 0 ∷ 0 ∷ 0 ∷ 0 ∷ 0 ∷ 0 ∷ 0 ∷ []))
unfolding number16 number32 is_zero kind_of super_of super_checks super_in super_at v1_inode v2_inode inode_of inode_at inode_place bit with_bit parts_of number_in follow pointer_by inside follow_at zone_at block_at content_at entry_of entry_at find_entry entries_at is_dots zone_number block content entry first_named lookup reached thing names names_in was_reached with_inode survey_walk owner names_of has_name judge judged survey_of is_indirect
minix_survey_a_directory_nested_below_64_others = refl

-- a directory nested below 65 others
pub minix_survey_a_directory_nested_below_65_others : survey_found (volume_by (super_with V1Short 80 128 1 1 7) (node 16877 3 48 (7 ∷ 0 ∷ 0 ∷ 0 ∷ 0 ∷ 0 ∷ 0 ∷ 0 ∷ 0 ∷ 0 ∷ []) ∷ node 16877 3 48 (8 ∷ 0 ∷ 0 ∷ 0 ∷ 0 ∷ 0 ∷ 0 ∷ 0 ∷ 0 ∷ 0 ∷ []) ∷ node 16877 3 48 (9 ∷ 0 ∷ 0 ∷ 0 ∷ 0 ∷ 0 ∷ 0 ∷ 0 ∷ 0 ∷ 0 ∷ []) ∷ node 16877 3 48 (10 ∷ 0 ∷ 0 ∷ 0 ∷ 0 ∷ 0 ∷ 0 ∷ 0 ∷ 0 ∷ 0 ∷ []) ∷ node 16877 3 48 (11 ∷ 0 ∷ 0 ∷ 0 ∷ 0 ∷ 0 ∷ 0 ∷ 0 ∷ 0 ∷ 0 ∷ []) ∷ node 16877 3 48 (12 ∷ 0 ∷ 0 ∷ 0 ∷ 0 ∷ 0 ∷ 0 ∷ 0 ∷ 0 ∷ 0 ∷ []) ∷ node 16877 3 48 (13 ∷ 0 ∷ 0 ∷ 0 ∷ 0 ∷ 0 ∷ 0 ∷ 0 ∷ 0 ∷ 0 ∷ []) ∷ node 16877 3 48 (14 ∷ 0 ∷ 0 ∷ 0 ∷ 0 ∷ 0 ∷ 0 ∷ 0 ∷ 0 ∷ 0 ∷ []) ∷ node 16877 3 48 (15 ∷ 0 ∷ 0 ∷ 0 ∷ 0 ∷ 0 ∷ 0 ∷ 0 ∷ 0 ∷ 0 ∷ []) ∷ node 16877 3 48 (16 ∷ 0 ∷ 0 ∷ 0 ∷ 0 ∷ 0 ∷ 0 ∷ 0 ∷ 0 ∷ 0 ∷ []) ∷ node 16877 3 48 (17 ∷ 0 ∷ 0 ∷ 0 ∷ 0 ∷ 0 ∷ 0 ∷ 0 ∷ 0 ∷ 0 ∷ []) ∷ node 16877 3 48 (18 ∷ 0 ∷ 0 ∷ 0 ∷ 0 ∷ 0 ∷ 0 ∷ 0 ∷ 0 ∷ 0 ∷ []) ∷ node 16877 3 48 (19 ∷ 0 ∷ 0 ∷ 0 ∷ 0 ∷ 0 ∷ 0 ∷ 0 ∷ 0 ∷ 0 ∷ []) ∷ node 16877 3 48 (20 ∷ 0 ∷ 0 ∷ 0 ∷ 0 ∷ 0 ∷ 0 ∷ 0 ∷ 0 ∷ 0 ∷ []) ∷ node 16877 3 48 (21 ∷ 0 ∷ 0 ∷ 0 ∷ 0 ∷ 0 ∷ 0 ∷ 0 ∷ 0 ∷ 0 ∷ []) ∷ node 16877 3 48 (22 ∷ 0 ∷ 0 ∷ 0 ∷ 0 ∷ 0 ∷ 0 ∷ 0 ∷ 0 ∷ 0 ∷ []) ∷ node 16877 3 48 (23 ∷ 0 ∷ 0 ∷ 0 ∷ 0 ∷ 0 ∷ 0 ∷ 0 ∷ 0 ∷ 0 ∷ []) ∷ node 16877 3 48 (24 ∷ 0 ∷ 0 ∷ 0 ∷ 0 ∷ 0 ∷ 0 ∷ 0 ∷ 0 ∷ 0 ∷ []) ∷ node 16877 3 48 (25 ∷ 0 ∷ 0 ∷ 0 ∷ 0 ∷ 0 ∷ 0 ∷ 0 ∷ 0 ∷ 0 ∷ []) ∷ node 16877 3 48 (26 ∷ 0 ∷ 0 ∷ 0 ∷ 0 ∷ 0 ∷ 0 ∷ 0 ∷ 0 ∷ 0 ∷ []) ∷ node 16877 3 48 (27 ∷ 0 ∷ 0 ∷ 0 ∷ 0 ∷ 0 ∷ 0 ∷ 0 ∷ 0 ∷ 0 ∷ []) ∷ node 16877 3 48 (28 ∷ 0 ∷ 0 ∷ 0 ∷ 0 ∷ 0 ∷ 0 ∷ 0 ∷ 0 ∷ 0 ∷ []) ∷ node 16877 3 48 (29 ∷ 0 ∷ 0 ∷ 0 ∷ 0 ∷ 0 ∷ 0 ∷ 0 ∷ 0 ∷ 0 ∷ []) ∷ node 16877 3 48 (30 ∷ 0 ∷ 0 ∷ 0 ∷ 0 ∷ 0 ∷ 0 ∷ 0 ∷ 0 ∷ 0 ∷ []) ∷ node 16877 3 48 (31 ∷ 0 ∷ 0 ∷ 0 ∷ 0 ∷ 0 ∷ 0 ∷ 0 ∷ 0 ∷ 0 ∷ []) ∷ node 16877 3 48 (32 ∷ 0 ∷ 0 ∷ 0 ∷ 0 ∷ 0 ∷ 0 ∷ 0 ∷ 0 ∷ 0 ∷ []) ∷ node 16877 3 48 (33 ∷ 0 ∷ 0 ∷ 0 ∷ 0 ∷ 0 ∷ 0 ∷ 0 ∷ 0 ∷ 0 ∷ []) ∷ node 16877 3 48 (34 ∷ 0 ∷ 0 ∷ 0 ∷ 0 ∷ 0 ∷ 0 ∷ 0 ∷ 0 ∷ 0 ∷ []) ∷ node 16877 3 48 (35 ∷ 0 ∷ 0 ∷ 0 ∷ 0 ∷ 0 ∷ 0 ∷ 0 ∷ 0 ∷ 0 ∷ []) ∷ node 16877 3 48 (36 ∷ 0 ∷ 0 ∷ 0 ∷ 0 ∷ 0 ∷ 0 ∷ 0 ∷ 0 ∷ 0 ∷ []) ∷ node 16877 3 48 (37 ∷ 0 ∷ 0 ∷ 0 ∷ 0 ∷ 0 ∷ 0 ∷ 0 ∷ 0 ∷ 0 ∷ []) ∷ node 16877 3 48 (38 ∷ 0 ∷ 0 ∷ 0 ∷ 0 ∷ 0 ∷ 0 ∷ 0 ∷ 0 ∷ 0 ∷ []) ∷ node 16877 3 48 (39 ∷ 0 ∷ 0 ∷ 0 ∷ 0 ∷ 0 ∷ 0 ∷ 0 ∷ 0 ∷ 0 ∷ []) ∷ node 16877 3 48 (40 ∷ 0 ∷ 0 ∷ 0 ∷ 0 ∷ 0 ∷ 0 ∷ 0 ∷ 0 ∷ 0 ∷ []) ∷ node 16877 3 48 (41 ∷ 0 ∷ 0 ∷ 0 ∷ 0 ∷ 0 ∷ 0 ∷ 0 ∷ 0 ∷ 0 ∷ []) ∷ node 16877 3 48 (42 ∷ 0 ∷ 0 ∷ 0 ∷ 0 ∷ 0 ∷ 0 ∷ 0 ∷ 0 ∷ 0 ∷ []) ∷ node 16877 3 48 (43 ∷ 0 ∷ 0 ∷ 0 ∷ 0 ∷ 0 ∷ 0 ∷ 0 ∷ 0 ∷ 0 ∷ []) ∷ node 16877 3 48 (44 ∷ 0 ∷ 0 ∷ 0 ∷ 0 ∷ 0 ∷ 0 ∷ 0 ∷ 0 ∷ 0 ∷ []) ∷ node 16877 3 48 (45 ∷ 0 ∷ 0 ∷ 0 ∷ 0 ∷ 0 ∷ 0 ∷ 0 ∷ 0 ∷ 0 ∷ []) ∷ node 16877 3 48 (46 ∷ 0 ∷ 0 ∷ 0 ∷ 0 ∷ 0 ∷ 0 ∷ 0 ∷ 0 ∷ 0 ∷ []) ∷ node 16877 3 48 (47 ∷ 0 ∷ 0 ∷ 0 ∷ 0 ∷ 0 ∷ 0 ∷ 0 ∷ 0 ∷ 0 ∷ []) ∷ node 16877 3 48 (48 ∷ 0 ∷ 0 ∷ 0 ∷ 0 ∷ 0 ∷ 0 ∷ 0 ∷ 0 ∷ 0 ∷ []) ∷ node 16877 3 48 (49 ∷ 0 ∷ 0 ∷ 0 ∷ 0 ∷ 0 ∷ 0 ∷ 0 ∷ 0 ∷ 0 ∷ []) ∷ node 16877 3 48 (50 ∷ 0 ∷ 0 ∷ 0 ∷ 0 ∷ 0 ∷ 0 ∷ 0 ∷ 0 ∷ 0 ∷ []) ∷ node 16877 3 48 (51 ∷ 0 ∷ 0 ∷ 0 ∷ 0 ∷ 0 ∷ 0 ∷ 0 ∷ 0 ∷ 0 ∷ []) ∷ node 16877 3 48 (52 ∷ 0 ∷ 0 ∷ 0 ∷ 0 ∷ 0 ∷ 0 ∷ 0 ∷ 0 ∷ 0 ∷ []) ∷ node 16877 3 48 (53 ∷ 0 ∷ 0 ∷ 0 ∷ 0 ∷ 0 ∷ 0 ∷ 0 ∷ 0 ∷ 0 ∷ []) ∷ node 16877 3 48 (54 ∷ 0 ∷ 0 ∷ 0 ∷ 0 ∷ 0 ∷ 0 ∷ 0 ∷ 0 ∷ 0 ∷ []) ∷ node 16877 3 48 (55 ∷ 0 ∷ 0 ∷ 0 ∷ 0 ∷ 0 ∷ 0 ∷ 0 ∷ 0 ∷ 0 ∷ []) ∷ node 16877 3 48 (56 ∷ 0 ∷ 0 ∷ 0 ∷ 0 ∷ 0 ∷ 0 ∷ 0 ∷ 0 ∷ 0 ∷ []) ∷ node 16877 3 48 (57 ∷ 0 ∷ 0 ∷ 0 ∷ 0 ∷ 0 ∷ 0 ∷ 0 ∷ 0 ∷ 0 ∷ []) ∷ node 16877 3 48 (58 ∷ 0 ∷ 0 ∷ 0 ∷ 0 ∷ 0 ∷ 0 ∷ 0 ∷ 0 ∷ 0 ∷ []) ∷ node 16877 3 48 (59 ∷ 0 ∷ 0 ∷ 0 ∷ 0 ∷ 0 ∷ 0 ∷ 0 ∷ 0 ∷ 0 ∷ []) ∷ node 16877 3 48 (60 ∷ 0 ∷ 0 ∷ 0 ∷ 0 ∷ 0 ∷ 0 ∷ 0 ∷ 0 ∷ 0 ∷ []) ∷ node 16877 3 48 (61 ∷ 0 ∷ 0 ∷ 0 ∷ 0 ∷ 0 ∷ 0 ∷ 0 ∷ 0 ∷ 0 ∷ []) ∷ node 16877 3 48 (62 ∷ 0 ∷ 0 ∷ 0 ∷ 0 ∷ 0 ∷ 0 ∷ 0 ∷ 0 ∷ 0 ∷ []) ∷ node 16877 3 48 (63 ∷ 0 ∷ 0 ∷ 0 ∷ 0 ∷ 0 ∷ 0 ∷ 0 ∷ 0 ∷ 0 ∷ []) ∷ node 16877 3 48 (64 ∷ 0 ∷ 0 ∷ 0 ∷ 0 ∷ 0 ∷ 0 ∷ 0 ∷ 0 ∷ 0 ∷ []) ∷ node 16877 3 48 (65 ∷ 0 ∷ 0 ∷ 0 ∷ 0 ∷ 0 ∷ 0 ∷ 0 ∷ 0 ∷ 0 ∷ []) ∷ node 16877 3 48 (66 ∷ 0 ∷ 0 ∷ 0 ∷ 0 ∷ 0 ∷ 0 ∷ 0 ∷ 0 ∷ 0 ∷ []) ∷ node 16877 3 48 (67 ∷ 0 ∷ 0 ∷ 0 ∷ 0 ∷ 0 ∷ 0 ∷ 0 ∷ 0 ∷ 0 ∷ []) ∷ node 16877 3 48 (68 ∷ 0 ∷ 0 ∷ 0 ∷ 0 ∷ 0 ∷ 0 ∷ 0 ∷ 0 ∷ 0 ∷ []) ∷ node 16877 3 48 (69 ∷ 0 ∷ 0 ∷ 0 ∷ 0 ∷ 0 ∷ 0 ∷ 0 ∷ 0 ∷ 0 ∷ []) ∷ node 16877 3 48 (70 ∷ 0 ∷ 0 ∷ 0 ∷ 0 ∷ 0 ∷ 0 ∷ 0 ∷ 0 ∷ 0 ∷ []) ∷ node 16877 3 48 (71 ∷ 0 ∷ 0 ∷ 0 ∷ 0 ∷ 0 ∷ 0 ∷ 0 ∷ 0 ∷ 0 ∷ []) ∷ node 16877 2 32 (72 ∷ 0 ∷ 0 ∷ 0 ∷ 0 ∷ 0 ∷ 0 ∷ 0 ∷ 0 ∷ 0 ∷ []) ∷ []) (zone_with 7 (file 1024 (piece 0 (hex 3 0x01002e) ∷ piece 16 (hex 4 0x01002e2e) ∷ piece 32 (hex 3 0x020064) ∷ [])) ∷ zone_with 8 (file 1024 (piece 0 (hex 3 0x02002e) ∷ piece 16 (hex 4 0x01002e2e) ∷ piece 32 (hex 3 0x030064) ∷ [])) ∷ zone_with 9 (file 1024 (piece 0 (hex 3 0x03002e) ∷ piece 16 (hex 4 0x02002e2e) ∷ piece 32 (hex 3 0x040064) ∷ [])) ∷ zone_with 10 (file 1024 (piece 0 (hex 3 0x04002e) ∷ piece 16 (hex 4 0x03002e2e) ∷ piece 32 (hex 3 0x050064) ∷ [])) ∷ zone_with 11 (file 1024 (piece 0 (hex 3 0x05002e) ∷ piece 16 (hex 4 0x04002e2e) ∷ piece 32 (hex 3 0x060064) ∷ [])) ∷ zone_with 12 (file 1024 (piece 0 (hex 3 0x06002e) ∷ piece 16 (hex 4 0x05002e2e) ∷ piece 32 (hex 3 0x070064) ∷ [])) ∷ zone_with 13 (file 1024 (piece 0 (hex 3 0x07002e) ∷ piece 16 (hex 4 0x06002e2e) ∷ piece 32 (hex 3 0x080064) ∷ [])) ∷ zone_with 14 (file 1024 (piece 0 (hex 3 0x08002e) ∷ piece 16 (hex 4 0x07002e2e) ∷ piece 32 (hex 3 0x090064) ∷ [])) ∷ zone_with 15 (file 1024 (piece 0 (hex 3 0x09002e) ∷ piece 16 (hex 4 0x08002e2e) ∷ piece 32 (hex 3 0x0a0064) ∷ [])) ∷ zone_with 16 (file 1024 (piece 0 (hex 3 0x0a002e) ∷ piece 16 (hex 4 0x09002e2e) ∷ piece 32 (hex 3 0x0b0064) ∷ [])) ∷ zone_with 17 (file 1024 (piece 0 (hex 3 0x0b002e) ∷ piece 16 (hex 4 0x0a002e2e) ∷ piece 32 (hex 3 0x0c0064) ∷ [])) ∷ zone_with 18 (file 1024 (piece 0 (hex 3 0x0c002e) ∷ piece 16 (hex 4 0x0b002e2e) ∷ piece 32 (hex 3 0x0d0064) ∷ [])) ∷ zone_with 19 (file 1024 (piece 0 (hex 3 0x0d002e) ∷ piece 16 (hex 4 0x0c002e2e) ∷ piece 32 (hex 3 0x0e0064) ∷ [])) ∷ zone_with 20 (file 1024 (piece 0 (hex 3 0x0e002e) ∷ piece 16 (hex 4 0x0d002e2e) ∷ piece 32 (hex 3 0x0f0064) ∷ [])) ∷ zone_with 21 (file 1024 (piece 0 (hex 3 0x0f002e) ∷ piece 16 (hex 4 0x0e002e2e) ∷ piece 32 (hex 3 0x100064) ∷ [])) ∷ zone_with 22 (file 1024 (piece 0 (hex 3 0x10002e) ∷ piece 16 (hex 4 0x0f002e2e) ∷ piece 32 (hex 3 0x110064) ∷ [])) ∷ zone_with 23 (file 1024 (piece 0 (hex 3 0x11002e) ∷ piece 16 (hex 4 0x10002e2e) ∷ piece 32 (hex 3 0x120064) ∷ [])) ∷ zone_with 24 (file 1024 (piece 0 (hex 3 0x12002e) ∷ piece 16 (hex 4 0x11002e2e) ∷ piece 32 (hex 3 0x130064) ∷ [])) ∷ zone_with 25 (file 1024 (piece 0 (hex 3 0x13002e) ∷ piece 16 (hex 4 0x12002e2e) ∷ piece 32 (hex 3 0x140064) ∷ [])) ∷ zone_with 26 (file 1024 (piece 0 (hex 3 0x14002e) ∷ piece 16 (hex 4 0x13002e2e) ∷ piece 32 (hex 3 0x150064) ∷ [])) ∷ zone_with 27 (file 1024 (piece 0 (hex 3 0x15002e) ∷ piece 16 (hex 4 0x14002e2e) ∷ piece 32 (hex 3 0x160064) ∷ [])) ∷ zone_with 28 (file 1024 (piece 0 (hex 3 0x16002e) ∷ piece 16 (hex 4 0x15002e2e) ∷ piece 32 (hex 3 0x170064) ∷ [])) ∷ zone_with 29 (file 1024 (piece 0 (hex 3 0x17002e) ∷ piece 16 (hex 4 0x16002e2e) ∷ piece 32 (hex 3 0x180064) ∷ [])) ∷ zone_with 30 (file 1024 (piece 0 (hex 3 0x18002e) ∷ piece 16 (hex 4 0x17002e2e) ∷ piece 32 (hex 3 0x190064) ∷ [])) ∷ zone_with 31 (file 1024 (piece 0 (hex 3 0x19002e) ∷ piece 16 (hex 4 0x18002e2e) ∷ piece 32 (hex 3 0x1a0064) ∷ [])) ∷ zone_with 32 (file 1024 (piece 0 (hex 3 0x1a002e) ∷ piece 16 (hex 4 0x19002e2e) ∷ piece 32 (hex 3 0x1b0064) ∷ [])) ∷ zone_with 33 (file 1024 (piece 0 (hex 3 0x1b002e) ∷ piece 16 (hex 4 0x1a002e2e) ∷ piece 32 (hex 3 0x1c0064) ∷ [])) ∷ zone_with 34 (file 1024 (piece 0 (hex 3 0x1c002e) ∷ piece 16 (hex 4 0x1b002e2e) ∷ piece 32 (hex 3 0x1d0064) ∷ [])) ∷ zone_with 35 (file 1024 (piece 0 (hex 3 0x1d002e) ∷ piece 16 (hex 4 0x1c002e2e) ∷ piece 32 (hex 3 0x1e0064) ∷ [])) ∷ zone_with 36 (file 1024 (piece 0 (hex 3 0x1e002e) ∷ piece 16 (hex 4 0x1d002e2e) ∷ piece 32 (hex 3 0x1f0064) ∷ [])) ∷ zone_with 37 (file 1024 (piece 0 (hex 3 0x1f002e) ∷ piece 16 (hex 4 0x1e002e2e) ∷ piece 32 (hex 3 0x200064) ∷ [])) ∷ zone_with 38 (file 1024 (piece 0 (hex 3 0x20002e) ∷ piece 16 (hex 4 0x1f002e2e) ∷ piece 32 (hex 3 0x210064) ∷ [])) ∷ zone_with 39 (file 1024 (piece 0 (hex 3 0x21002e) ∷ piece 16 (hex 4 0x20002e2e) ∷ piece 32 (hex 3 0x220064) ∷ [])) ∷ zone_with 40 (file 1024 (piece 0 (hex 3 0x22002e) ∷ piece 16 (hex 4 0x21002e2e) ∷ piece 32 (hex 3 0x230064) ∷ [])) ∷ zone_with 41 (file 1024 (piece 0 (hex 3 0x23002e) ∷ piece 16 (hex 4 0x22002e2e) ∷ piece 32 (hex 3 0x240064) ∷ [])) ∷ zone_with 42 (file 1024 (piece 0 (hex 3 0x24002e) ∷ piece 16 (hex 4 0x23002e2e) ∷ piece 32 (hex 3 0x250064) ∷ [])) ∷ zone_with 43 (file 1024 (piece 0 (hex 3 0x25002e) ∷ piece 16 (hex 4 0x24002e2e) ∷ piece 32 (hex 3 0x260064) ∷ [])) ∷ zone_with 44 (file 1024 (piece 0 (hex 3 0x26002e) ∷ piece 16 (hex 4 0x25002e2e) ∷ piece 32 (hex 3 0x270064) ∷ [])) ∷ zone_with 45 (file 1024 (piece 0 (hex 3 0x27002e) ∷ piece 16 (hex 4 0x26002e2e) ∷ piece 32 (hex 3 0x280064) ∷ [])) ∷ zone_with 46 (file 1024 (piece 0 (hex 3 0x28002e) ∷ piece 16 (hex 4 0x27002e2e) ∷ piece 32 (hex 3 0x290064) ∷ [])) ∷ zone_with 47 (file 1024 (piece 0 (hex 3 0x29002e) ∷ piece 16 (hex 4 0x28002e2e) ∷ piece 32 (hex 3 0x2a0064) ∷ [])) ∷ zone_with 48 (file 1024 (piece 0 (hex 3 0x2a002e) ∷ piece 16 (hex 4 0x29002e2e) ∷ piece 32 (hex 3 0x2b0064) ∷ [])) ∷ zone_with 49 (file 1024 (piece 0 (hex 3 0x2b002e) ∷ piece 16 (hex 4 0x2a002e2e) ∷ piece 32 (hex 3 0x2c0064) ∷ [])) ∷ zone_with 50 (file 1024 (piece 0 (hex 3 0x2c002e) ∷ piece 16 (hex 4 0x2b002e2e) ∷ piece 32 (hex 3 0x2d0064) ∷ [])) ∷ zone_with 51 (file 1024 (piece 0 (hex 3 0x2d002e) ∷ piece 16 (hex 4 0x2c002e2e) ∷ piece 32 (hex 3 0x2e0064) ∷ [])) ∷ zone_with 52 (file 1024 (piece 0 (hex 3 0x2e002e) ∷ piece 16 (hex 4 0x2d002e2e) ∷ piece 32 (hex 3 0x2f0064) ∷ [])) ∷ zone_with 53 (file 1024 (piece 0 (hex 3 0x2f002e) ∷ piece 16 (hex 4 0x2e002e2e) ∷ piece 32 (hex 3 0x300064) ∷ [])) ∷ zone_with 54 (file 1024 (piece 0 (hex 3 0x30002e) ∷ piece 16 (hex 4 0x2f002e2e) ∷ piece 32 (hex 3 0x310064) ∷ [])) ∷ zone_with 55 (file 1024 (piece 0 (hex 3 0x31002e) ∷ piece 16 (hex 4 0x30002e2e) ∷ piece 32 (hex 3 0x320064) ∷ [])) ∷ zone_with 56 (file 1024 (piece 0 (hex 3 0x32002e) ∷ piece 16 (hex 4 0x31002e2e) ∷ piece 32 (hex 3 0x330064) ∷ [])) ∷ zone_with 57 (file 1024 (piece 0 (hex 3 0x33002e) ∷ piece 16 (hex 4 0x32002e2e) ∷ piece 32 (hex 3 0x340064) ∷ [])) ∷ zone_with 58 (file 1024 (piece 0 (hex 3 0x34002e) ∷ piece 16 (hex 4 0x33002e2e) ∷ piece 32 (hex 3 0x350064) ∷ [])) ∷ zone_with 59 (file 1024 (piece 0 (hex 3 0x35002e) ∷ piece 16 (hex 4 0x34002e2e) ∷ piece 32 (hex 3 0x360064) ∷ [])) ∷ zone_with 60 (file 1024 (piece 0 (hex 3 0x36002e) ∷ piece 16 (hex 4 0x35002e2e) ∷ piece 32 (hex 3 0x370064) ∷ [])) ∷ zone_with 61 (file 1024 (piece 0 (hex 3 0x37002e) ∷ piece 16 (hex 4 0x36002e2e) ∷ piece 32 (hex 3 0x380064) ∷ [])) ∷ zone_with 62 (file 1024 (piece 0 (hex 3 0x38002e) ∷ piece 16 (hex 4 0x37002e2e) ∷ piece 32 (hex 3 0x390064) ∷ [])) ∷ zone_with 63 (file 1024 (piece 0 (hex 3 0x39002e) ∷ piece 16 (hex 4 0x38002e2e) ∷ piece 32 (hex 3 0x3a0064) ∷ [])) ∷ zone_with 64 (file 1024 (piece 0 (hex 3 0x3a002e) ∷ piece 16 (hex 4 0x39002e2e) ∷ piece 32 (hex 3 0x3b0064) ∷ [])) ∷ zone_with 65 (file 1024 (piece 0 (hex 3 0x3b002e) ∷ piece 16 (hex 4 0x3a002e2e) ∷ piece 32 (hex 3 0x3c0064) ∷ [])) ∷ zone_with 66 (file 1024 (piece 0 (hex 3 0x3c002e) ∷ piece 16 (hex 4 0x3b002e2e) ∷ piece 32 (hex 3 0x3d0064) ∷ [])) ∷ zone_with 67 (file 1024 (piece 0 (hex 3 0x3d002e) ∷ piece 16 (hex 4 0x3c002e2e) ∷ piece 32 (hex 3 0x3e0064) ∷ [])) ∷ zone_with 68 (file 1024 (piece 0 (hex 3 0x3e002e) ∷ piece 16 (hex 4 0x3d002e2e) ∷ piece 32 (hex 3 0x3f0064) ∷ [])) ∷ zone_with 69 (file 1024 (piece 0 (hex 3 0x3f002e) ∷ piece 16 (hex 4 0x3e002e2e) ∷ piece 32 (hex 3 0x400064) ∷ [])) ∷ zone_with 70 (file 1024 (piece 0 (hex 3 0x40002e) ∷ piece 16 (hex 4 0x3f002e2e) ∷ piece 32 (hex 3 0x410064) ∷ [])) ∷ zone_with 71 (file 1024 (piece 0 (hex 3 0x41002e) ∷ piece 16 (hex 4 0x40002e2e) ∷ piece 32 (hex 3 0x420064) ∷ [])) ∷ zone_with 72 (file 1024 (piece 0 (hex 3 0x42002e) ∷ piece 16 (hex 4 0x41002e2e) ∷ [])) ∷ []) (1 ∷ 2 ∷ 3 ∷ 4 ∷ 5 ∷ 6 ∷ 7 ∷ 8 ∷ 9 ∷ 10 ∷ 11 ∷ 12 ∷ 13 ∷ 14 ∷ 15 ∷ 16 ∷ 17 ∷ 18 ∷ 19 ∷ 20 ∷ 21 ∷ 22 ∷ 23 ∷ 24 ∷ 25 ∷ 26 ∷ 27 ∷ 28 ∷ 29 ∷ 30 ∷ 31 ∷ 32 ∷ 33 ∷ 34 ∷ 35 ∷ 36 ∷ 37 ∷ 38 ∷ 39 ∷ 40 ∷ 41 ∷ 42 ∷ 43 ∷ 44 ∷ 45 ∷ 46 ∷ 47 ∷ 48 ∷ 49 ∷ 50 ∷ 51 ∷ 52 ∷ 53 ∷ 54 ∷ 55 ∷ 56 ∷ 57 ∷ 58 ∷ 59 ∷ 60 ∷ 61 ∷ 62 ∷ 63 ∷ 64 ∷ 65 ∷ 66 ∷ []) (7 ∷ 8 ∷ 9 ∷ 10 ∷ 11 ∷ 12 ∷ 13 ∷ 14 ∷ 15 ∷ 16 ∷ 17 ∷ 18 ∷ 19 ∷ 20 ∷ 21 ∷ 22 ∷ 23 ∷ 24 ∷ 25 ∷ 26 ∷ 27 ∷ 28 ∷ 29 ∷ 30 ∷ 31 ∷ 32 ∷ 33 ∷ 34 ∷ 35 ∷ 36 ∷ 37 ∷ 38 ∷ 39 ∷ 40 ∷ 41 ∷ 42 ∷ 43 ∷ 44 ∷ 45 ∷ 46 ∷ 47 ∷ 48 ∷ 49 ∷ 50 ∷ 51 ∷ 52 ∷ 53 ∷ 54 ∷ 55 ∷ 56 ∷ 57 ∷ 58 ∷ 59 ∷ 60 ∷ 61 ∷ 62 ∷ 63 ∷ 64 ∷ 65 ∷ 66 ∷ 67 ∷ 68 ∷ 69 ∷ 70 ∷ 71 ∷ 72 ∷ [])) ≡ Err TooDeep
unfolding number16 number32 is_zero kind_of super_of super_checks super_in super_at v1_inode v2_inode inode_of inode_at inode_place bit with_bit parts_of number_in follow pointer_by inside follow_at zone_at block_at content_at entry_of entry_at find_entry entries_at is_dots zone_number block content entry first_named lookup reached thing names names_in was_reached with_inode survey_walk owner names_of has_name judge judged survey_of is_indirect
minix_survey_a_directory_nested_below_65_others = refl
