-- Cases of surveys of Minix volumes, written by tools/survey_cases.py.
use Rattle.std.proofs.Common.{◌≡◌, [], ◌∷◌, Ok, Err, true, false, codes, refl}
use Rattle.lilo_model.specs.Bytes.{number16, number32, is_zero}
use Rattle.lilo_model.specs.MinixEntries.{entry_of, entry_at, find_entry, entries_at, is_dots}
use Rattle.lilo_model.specs.MinixFind.{NotDirectory, Zone}
use Rattle.lilo_model.specs.MinixLayout.{kind_of, super_of, super_checks, super_in, super_at, v1_inode, v2_inode, inode_of, inode_at, inode_place, V1Short, V1Long}
use Rattle.lilo_model.specs.MinixNames.{zone_number, block, content, entry, first_named, lookup, reached, thing, names, names_in}
use Rattle.lilo_model.specs.MinixParts.{bit, with_bit, parts_of, number_in, follow, pointer_by, inside, follow_at, zone_at, block_at, content_at, ZoneOutside}
use Rattle.lilo_model.specs.MinixSurvey.{was_reached, with_inode, survey_walk, owner, names_of, has_name, judge, judged, survey_of, is_indirect, Unmarked, UnmarkedInode, BadLink, FewLinks, Tree}
use Rattle.model_cases.specs.Sparse.{file, piece, hex}
use Rattle.model_cases.specs.Surveys.{super_with, volume_by, node, zone_with, survey_found, found, owned}

-- a sound volume of version 1 with short names
pub minix_survey_a_sound_volume_of_version_1_with_short_names : survey_found (volume_by (super_with V1Short 16 48 1 1 5) (node 16877 4 96 (5 ∷ 0 ∷ 0 ∷ 0 ∷ 0 ∷ 0 ∷ 0 ∷ 0 ∷ 0 ∷ 0 ∷ []) ∷ node 16877 3 64 (6 ∷ 0 ∷ 0 ∷ 0 ∷ 0 ∷ 0 ∷ 0 ∷ 0 ∷ 0 ∷ 0 ∷ []) ∷ node 33188 1 4 (7 ∷ 0 ∷ 0 ∷ 0 ∷ 0 ∷ 0 ∷ 0 ∷ 0 ∷ 0 ∷ 0 ∷ []) ∷ node 16877 2 64 (8 ∷ 0 ∷ 0 ∷ 0 ∷ 0 ∷ 0 ∷ 0 ∷ 0 ∷ 0 ∷ 0 ∷ []) ∷ node 33188 1 2000 (9 ∷ 10 ∷ 0 ∷ 0 ∷ 0 ∷ 0 ∷ 0 ∷ 0 ∷ 0 ∷ 0 ∷ []) ∷ node 41471 1 3 (11 ∷ 0 ∷ 0 ∷ 0 ∷ 0 ∷ 0 ∷ 0 ∷ 0 ∷ 0 ∷ 0 ∷ []) ∷ node 33188 1 1 (12 ∷ 0 ∷ 0 ∷ 0 ∷ 0 ∷ 0 ∷ 0 ∷ 0 ∷ 0 ∷ 0 ∷ []) ∷ node 33188 1 0 (0 ∷ 0 ∷ 0 ∷ 0 ∷ 0 ∷ 0 ∷ 0 ∷ 0 ∷ 0 ∷ 0 ∷ []) ∷ node 16877 2 32 (13 ∷ 0 ∷ 0 ∷ 0 ∷ 0 ∷ 0 ∷ 0 ∷ 0 ∷ 0 ∷ 0 ∷ []) ∷ []) (zone_with 5 (file 1024 (piece 0 (hex 3 0x01002e) ∷ piece 16 (hex 4 0x01002e2e) ∷ piece 32 (hex 3 0x020070) ∷ piece 48 (hex 3 0x030061) ∷ piece 64 (hex 3 0x06006c) ∷ piece 80 (hex 3 0x090072) ∷ [])) ∷ zone_with 6 (file 1024 (piece 0 (hex 3 0x02002e) ∷ piece 16 (hex 4 0x01002e2e) ∷ piece 32 (hex 3 0x040071) ∷ piece 48 (hex 3 0x050062) ∷ [])) ∷ zone_with 8 (file 1024 (piece 0 (hex 3 0x04002e) ∷ piece 16 (hex 4 0x02002e2e) ∷ piece 32 (hex 3 0x070063) ∷ piece 48 (hex 3 0x080064) ∷ [])) ∷ zone_with 13 (file 1024 (piece 0 (hex 3 0x09002e) ∷ piece 16 (hex 4 0x01002e2e) ∷ [])) ∷ []) (1 ∷ 2 ∷ 3 ∷ 4 ∷ 5 ∷ 6 ∷ 7 ∷ 8 ∷ 9 ∷ []) (5 ∷ 6 ∷ 7 ∷ 8 ∷ 9 ∷ 10 ∷ 11 ∷ 12 ∷ 13 ∷ [])) ≡ Ok (found (owned 5 1 false ∷ owned 6 2 false ∷ owned 7 3 false ∷ owned 8 4 false ∷ owned 9 5 false ∷ owned 10 5 false ∷ owned 11 6 false ∷ owned 12 7 false ∷ owned 13 9 false ∷ []) (0 ∷ 1 ∷ 1 ∷ 1 ∷ 1 ∷ 1 ∷ 1 ∷ 1 ∷ 1 ∷ 0 ∷ 0 ∷ 0 ∷ 0 ∷ 0 ∷ 0 ∷ 0 ∷ []))
unfolding number16 number32 is_zero kind_of super_of super_checks super_in super_at v1_inode v2_inode inode_of inode_at inode_place bit with_bit parts_of number_in follow pointer_by inside follow_at zone_at block_at content_at entry_of entry_at find_entry entries_at is_dots zone_number block content entry first_named lookup reached thing names names_in was_reached with_inode survey_walk owner names_of has_name judge judged survey_of is_indirect
minix_survey_a_sound_volume_of_version_1_with_short_names = refl

-- a sound volume of version 1 with short names, with an indirect zone
pub minix_survey_a_sound_volume_of_version_1_with_short_names_with_an_indirect_zone : survey_found (volume_by (super_with V1Short 16 48 1 1 5) (node 16877 4 96 (5 ∷ 0 ∷ 0 ∷ 0 ∷ 0 ∷ 0 ∷ 0 ∷ 0 ∷ 0 ∷ 0 ∷ []) ∷ node 16877 3 64 (6 ∷ 0 ∷ 0 ∷ 0 ∷ 0 ∷ 0 ∷ 0 ∷ 0 ∷ 0 ∷ 0 ∷ []) ∷ node 33188 1 4 (7 ∷ 0 ∷ 0 ∷ 0 ∷ 0 ∷ 0 ∷ 0 ∷ 0 ∷ 0 ∷ 0 ∷ []) ∷ node 16877 2 64 (8 ∷ 0 ∷ 0 ∷ 0 ∷ 0 ∷ 0 ∷ 0 ∷ 0 ∷ 0 ∷ 0 ∷ []) ∷ node 33188 1 2000 (9 ∷ 10 ∷ 0 ∷ 0 ∷ 0 ∷ 0 ∷ 0 ∷ 0 ∷ 0 ∷ 0 ∷ []) ∷ node 41471 1 3 (11 ∷ 0 ∷ 0 ∷ 0 ∷ 0 ∷ 0 ∷ 0 ∷ 0 ∷ 0 ∷ 0 ∷ []) ∷ node 33188 1 1 (12 ∷ 0 ∷ 0 ∷ 0 ∷ 0 ∷ 0 ∷ 0 ∷ 0 ∷ 0 ∷ 0 ∷ []) ∷ node 33188 1 9216 (13 ∷ 14 ∷ 15 ∷ 16 ∷ 17 ∷ 18 ∷ 19 ∷ 22 ∷ 0 ∷ 0 ∷ []) ∷ node 16877 2 32 (23 ∷ 0 ∷ 0 ∷ 0 ∷ 0 ∷ 0 ∷ 0 ∷ 0 ∷ 0 ∷ 0 ∷ []) ∷ []) (zone_with 5 (file 1024 (piece 0 (hex 3 0x01002e) ∷ piece 16 (hex 4 0x01002e2e) ∷ piece 32 (hex 3 0x020070) ∷ piece 48 (hex 3 0x030061) ∷ piece 64 (hex 3 0x06006c) ∷ piece 80 (hex 3 0x090072) ∷ [])) ∷ zone_with 6 (file 1024 (piece 0 (hex 3 0x02002e) ∷ piece 16 (hex 4 0x01002e2e) ∷ piece 32 (hex 3 0x040071) ∷ piece 48 (hex 3 0x050062) ∷ [])) ∷ zone_with 8 (file 1024 (piece 0 (hex 3 0x04002e) ∷ piece 16 (hex 4 0x02002e2e) ∷ piece 32 (hex 3 0x070063) ∷ piece 48 (hex 5 0x0800626967) ∷ [])) ∷ zone_with 22 (file 1024 (piece 0 (hex 3 0x140015) ∷ [])) ∷ zone_with 23 (file 1024 (piece 0 (hex 3 0x09002e) ∷ piece 16 (hex 4 0x01002e2e) ∷ [])) ∷ []) (1 ∷ 2 ∷ 3 ∷ 4 ∷ 5 ∷ 6 ∷ 7 ∷ 8 ∷ 9 ∷ []) (5 ∷ 6 ∷ 7 ∷ 8 ∷ 9 ∷ 10 ∷ 11 ∷ 12 ∷ 13 ∷ 14 ∷ 15 ∷ 16 ∷ 17 ∷ 18 ∷ 19 ∷ 20 ∷ 21 ∷ 22 ∷ 23 ∷ [])) ≡ Ok (found (owned 5 1 false ∷ owned 6 2 false ∷ owned 7 3 false ∷ owned 8 4 false ∷ owned 9 5 false ∷ owned 10 5 false ∷ owned 11 6 false ∷ owned 12 7 false ∷ owned 13 8 false ∷ owned 14 8 false ∷ owned 15 8 false ∷ owned 16 8 false ∷ owned 17 8 false ∷ owned 18 8 false ∷ owned 19 8 false ∷ owned 20 8 false ∷ owned 21 8 false ∷ owned 22 8 true ∷ owned 23 9 false ∷ []) (0 ∷ 1 ∷ 1 ∷ 1 ∷ 1 ∷ 1 ∷ 1 ∷ 1 ∷ 1 ∷ 0 ∷ 0 ∷ 0 ∷ 0 ∷ 0 ∷ 0 ∷ 0 ∷ []))
unfolding number16 number32 is_zero kind_of super_of super_checks super_in super_at v1_inode v2_inode inode_of inode_at inode_place bit with_bit parts_of number_in follow pointer_by inside follow_at zone_at block_at content_at entry_of entry_at find_entry entries_at is_dots zone_number block content entry first_named lookup reached thing names names_in was_reached with_inode survey_walk owner names_of has_name judge judged survey_of is_indirect
minix_survey_a_sound_volume_of_version_1_with_short_names_with_an_indirect_zone = refl

-- inode unmarked and then moved directory in version 1 with short names
pub minix_survey_inode_unmarked_and_then_moved_directory_in_version_1_with_short_names : survey_found (volume_by (super_with V1Short 16 48 1 1 5) (node 16877 4 96 (5 ∷ 0 ∷ 0 ∷ 0 ∷ 0 ∷ 0 ∷ 0 ∷ 0 ∷ 0 ∷ 0 ∷ []) ∷ node 16877 3 64 (6 ∷ 0 ∷ 0 ∷ 0 ∷ 0 ∷ 0 ∷ 0 ∷ 0 ∷ 0 ∷ 0 ∷ []) ∷ node 33188 1 4 (7 ∷ 0 ∷ 0 ∷ 0 ∷ 0 ∷ 0 ∷ 0 ∷ 0 ∷ 0 ∷ 0 ∷ []) ∷ node 16877 2 64 (8 ∷ 0 ∷ 0 ∷ 0 ∷ 0 ∷ 0 ∷ 0 ∷ 0 ∷ 0 ∷ 0 ∷ []) ∷ node 33188 1 2000 (9 ∷ 10 ∷ 0 ∷ 0 ∷ 0 ∷ 0 ∷ 0 ∷ 0 ∷ 0 ∷ 0 ∷ []) ∷ node 41471 1 3 (11 ∷ 0 ∷ 0 ∷ 0 ∷ 0 ∷ 0 ∷ 0 ∷ 0 ∷ 0 ∷ 0 ∷ []) ∷ node 33188 1 1 (12 ∷ 0 ∷ 0 ∷ 0 ∷ 0 ∷ 0 ∷ 0 ∷ 0 ∷ 0 ∷ 0 ∷ []) ∷ node 33188 1 9216 (13 ∷ 14 ∷ 15 ∷ 16 ∷ 17 ∷ 18 ∷ 19 ∷ 22 ∷ 0 ∷ 0 ∷ []) ∷ node 16877 2 32 (23 ∷ 0 ∷ 0 ∷ 0 ∷ 0 ∷ 0 ∷ 0 ∷ 0 ∷ 0 ∷ 0 ∷ []) ∷ []) (zone_with 5 (file 1024 (piece 0 (hex 3 0x01002e) ∷ piece 16 (hex 4 0x01002e2e) ∷ piece 32 (hex 3 0x020070) ∷ piece 48 (hex 3 0x030061) ∷ piece 64 (hex 3 0x06006c) ∷ piece 80 (hex 4 0x04007570) ∷ [])) ∷ zone_with 6 (file 1024 (piece 0 (hex 3 0x02002e) ∷ piece 16 (hex 4 0x01002e2e) ∷ piece 32 (hex 3 0x040071) ∷ piece 48 (hex 3 0x050062) ∷ [])) ∷ zone_with 8 (file 1024 (piece 0 (hex 3 0x04002e) ∷ piece 16 (hex 4 0x02002e2e) ∷ piece 32 (hex 3 0x070063) ∷ piece 48 (hex 5 0x0800626967) ∷ [])) ∷ zone_with 22 (file 1024 (piece 0 (hex 3 0x140015) ∷ [])) ∷ zone_with 23 (file 1024 (piece 0 (hex 3 0x09002e) ∷ piece 16 (hex 4 0x01002e2e) ∷ [])) ∷ []) (1 ∷ 2 ∷ 3 ∷ 5 ∷ 6 ∷ 7 ∷ 8 ∷ 9 ∷ []) (5 ∷ 6 ∷ 7 ∷ 8 ∷ 9 ∷ 10 ∷ 11 ∷ 12 ∷ 13 ∷ 14 ∷ 15 ∷ 16 ∷ 17 ∷ 18 ∷ 19 ∷ 20 ∷ 21 ∷ 22 ∷ 23 ∷ [])) ≡ Err (UnmarkedInode 4)
unfolding number16 number32 is_zero kind_of super_of super_checks super_in super_at v1_inode v2_inode inode_of inode_at inode_place bit with_bit parts_of number_in follow pointer_by inside follow_at zone_at block_at content_at entry_of entry_at find_entry entries_at is_dots zone_number block content entry first_named lookup reached thing names names_in was_reached with_inode survey_walk owner names_of has_name judge judged survey_of is_indirect
minix_survey_inode_unmarked_and_then_moved_directory_in_version_1_with_short_names = refl

-- zone unmarked in version 1 with short names
pub minix_survey_zone_unmarked_in_version_1_with_short_names : survey_found (volume_by (super_with V1Short 16 48 1 1 5) (node 16877 4 96 (5 ∷ 0 ∷ 0 ∷ 0 ∷ 0 ∷ 0 ∷ 0 ∷ 0 ∷ 0 ∷ 0 ∷ []) ∷ node 16877 3 64 (6 ∷ 0 ∷ 0 ∷ 0 ∷ 0 ∷ 0 ∷ 0 ∷ 0 ∷ 0 ∷ 0 ∷ []) ∷ node 33188 1 4 (7 ∷ 0 ∷ 0 ∷ 0 ∷ 0 ∷ 0 ∷ 0 ∷ 0 ∷ 0 ∷ 0 ∷ []) ∷ node 16877 2 64 (8 ∷ 0 ∷ 0 ∷ 0 ∷ 0 ∷ 0 ∷ 0 ∷ 0 ∷ 0 ∷ 0 ∷ []) ∷ node 33188 1 2000 (9 ∷ 10 ∷ 0 ∷ 0 ∷ 0 ∷ 0 ∷ 0 ∷ 0 ∷ 0 ∷ 0 ∷ []) ∷ node 41471 1 3 (11 ∷ 0 ∷ 0 ∷ 0 ∷ 0 ∷ 0 ∷ 0 ∷ 0 ∷ 0 ∷ 0 ∷ []) ∷ node 33188 1 1 (12 ∷ 0 ∷ 0 ∷ 0 ∷ 0 ∷ 0 ∷ 0 ∷ 0 ∷ 0 ∷ 0 ∷ []) ∷ node 33188 1 0 (0 ∷ 0 ∷ 0 ∷ 0 ∷ 0 ∷ 0 ∷ 0 ∷ 0 ∷ 0 ∷ 0 ∷ []) ∷ node 16877 2 32 (13 ∷ 0 ∷ 0 ∷ 0 ∷ 0 ∷ 0 ∷ 0 ∷ 0 ∷ 0 ∷ 0 ∷ []) ∷ []) (zone_with 5 (file 1024 (piece 0 (hex 3 0x01002e) ∷ piece 16 (hex 4 0x01002e2e) ∷ piece 32 (hex 3 0x020070) ∷ piece 48 (hex 3 0x030061) ∷ piece 64 (hex 3 0x06006c) ∷ piece 80 (hex 3 0x090072) ∷ [])) ∷ zone_with 6 (file 1024 (piece 0 (hex 3 0x02002e) ∷ piece 16 (hex 4 0x01002e2e) ∷ piece 32 (hex 3 0x040071) ∷ piece 48 (hex 3 0x050062) ∷ [])) ∷ zone_with 8 (file 1024 (piece 0 (hex 3 0x04002e) ∷ piece 16 (hex 4 0x02002e2e) ∷ piece 32 (hex 3 0x070063) ∷ piece 48 (hex 3 0x080064) ∷ [])) ∷ zone_with 13 (file 1024 (piece 0 (hex 3 0x09002e) ∷ piece 16 (hex 4 0x01002e2e) ∷ [])) ∷ []) (1 ∷ 2 ∷ 3 ∷ 4 ∷ 5 ∷ 6 ∷ 7 ∷ 8 ∷ 9 ∷ []) (5 ∷ 7 ∷ 8 ∷ 9 ∷ 10 ∷ 11 ∷ 12 ∷ 13 ∷ [])) ≡ Err (Unmarked 6)
unfolding number16 number32 is_zero kind_of super_of super_checks super_in super_at v1_inode v2_inode inode_of inode_at inode_place bit with_bit parts_of number_in follow pointer_by inside follow_at zone_at block_at content_at entry_of entry_at find_entry entries_at is_dots zone_number block content entry first_named lookup reached thing names names_in was_reached with_inode survey_walk owner names_of has_name judge judged survey_of is_indirect
minix_survey_zone_unmarked_in_version_1_with_short_names = refl

-- zone unmarked in version 1 with short names
pub minix_survey_zone_unmarked_in_version_1_with_short_names_2 : survey_found (volume_by (super_with V1Short 16 48 1 1 5) (node 16877 4 96 (5 ∷ 0 ∷ 0 ∷ 0 ∷ 0 ∷ 0 ∷ 0 ∷ 0 ∷ 0 ∷ 0 ∷ []) ∷ node 16877 3 64 (6 ∷ 0 ∷ 0 ∷ 0 ∷ 0 ∷ 0 ∷ 0 ∷ 0 ∷ 0 ∷ 0 ∷ []) ∷ node 33188 1 4 (7 ∷ 0 ∷ 0 ∷ 0 ∷ 0 ∷ 0 ∷ 0 ∷ 0 ∷ 0 ∷ 0 ∷ []) ∷ node 16877 2 64 (8 ∷ 0 ∷ 0 ∷ 0 ∷ 0 ∷ 0 ∷ 0 ∷ 0 ∷ 0 ∷ 0 ∷ []) ∷ node 33188 1 2000 (9 ∷ 10 ∷ 0 ∷ 0 ∷ 0 ∷ 0 ∷ 0 ∷ 0 ∷ 0 ∷ 0 ∷ []) ∷ node 41471 1 3 (11 ∷ 0 ∷ 0 ∷ 0 ∷ 0 ∷ 0 ∷ 0 ∷ 0 ∷ 0 ∷ 0 ∷ []) ∷ node 33188 1 1 (12 ∷ 0 ∷ 0 ∷ 0 ∷ 0 ∷ 0 ∷ 0 ∷ 0 ∷ 0 ∷ 0 ∷ []) ∷ node 33188 1 0 (0 ∷ 0 ∷ 0 ∷ 0 ∷ 0 ∷ 0 ∷ 0 ∷ 0 ∷ 0 ∷ 0 ∷ []) ∷ node 16877 2 32 (13 ∷ 0 ∷ 0 ∷ 0 ∷ 0 ∷ 0 ∷ 0 ∷ 0 ∷ 0 ∷ 0 ∷ []) ∷ []) (zone_with 5 (file 1024 (piece 0 (hex 3 0x01002e) ∷ piece 16 (hex 4 0x01002e2e) ∷ piece 32 (hex 3 0x020070) ∷ piece 48 (hex 3 0x030061) ∷ piece 64 (hex 3 0x06006c) ∷ piece 80 (hex 3 0x090072) ∷ [])) ∷ zone_with 6 (file 1024 (piece 0 (hex 3 0x02002e) ∷ piece 16 (hex 4 0x01002e2e) ∷ piece 32 (hex 3 0x040071) ∷ piece 48 (hex 3 0x050062) ∷ [])) ∷ zone_with 8 (file 1024 (piece 0 (hex 3 0x04002e) ∷ piece 16 (hex 4 0x02002e2e) ∷ piece 32 (hex 3 0x070063) ∷ piece 48 (hex 3 0x080064) ∷ [])) ∷ zone_with 13 (file 1024 (piece 0 (hex 3 0x09002e) ∷ piece 16 (hex 4 0x01002e2e) ∷ [])) ∷ []) (1 ∷ 2 ∷ 3 ∷ 4 ∷ 5 ∷ 6 ∷ 7 ∷ 8 ∷ 9 ∷ []) (6 ∷ 7 ∷ 8 ∷ 9 ∷ 10 ∷ 11 ∷ 12 ∷ 13 ∷ [])) ≡ Err (Unmarked 5)
unfolding number16 number32 is_zero kind_of super_of super_checks super_in super_at v1_inode v2_inode inode_of inode_at inode_place bit with_bit parts_of number_in follow pointer_by inside follow_at zone_at block_at content_at entry_of entry_at find_entry entries_at is_dots zone_number block content entry first_named lookup reached thing names names_in was_reached with_inode survey_walk owner names_of has_name judge judged survey_of is_indirect
minix_survey_zone_unmarked_in_version_1_with_short_names_2 = refl

-- mode 0 in version 1 with short names
pub minix_survey_mode_0_in_version_1_with_short_names : survey_found (volume_by (super_with V1Short 16 48 1 1 5) (node 16877 4 96 (5 ∷ 0 ∷ 0 ∷ 0 ∷ 0 ∷ 0 ∷ 0 ∷ 0 ∷ 0 ∷ 0 ∷ []) ∷ node 16877 3 64 (6 ∷ 0 ∷ 0 ∷ 0 ∷ 0 ∷ 0 ∷ 0 ∷ 0 ∷ 0 ∷ 0 ∷ []) ∷ node 0 1 4 (7 ∷ 0 ∷ 0 ∷ 0 ∷ 0 ∷ 0 ∷ 0 ∷ 0 ∷ 0 ∷ 0 ∷ []) ∷ node 16877 2 64 (8 ∷ 0 ∷ 0 ∷ 0 ∷ 0 ∷ 0 ∷ 0 ∷ 0 ∷ 0 ∷ 0 ∷ []) ∷ node 33188 1 2000 (9 ∷ 10 ∷ 0 ∷ 0 ∷ 0 ∷ 0 ∷ 0 ∷ 0 ∷ 0 ∷ 0 ∷ []) ∷ node 41471 1 3 (11 ∷ 0 ∷ 0 ∷ 0 ∷ 0 ∷ 0 ∷ 0 ∷ 0 ∷ 0 ∷ 0 ∷ []) ∷ node 33188 1 1 (12 ∷ 0 ∷ 0 ∷ 0 ∷ 0 ∷ 0 ∷ 0 ∷ 0 ∷ 0 ∷ 0 ∷ []) ∷ node 33188 1 0 (0 ∷ 0 ∷ 0 ∷ 0 ∷ 0 ∷ 0 ∷ 0 ∷ 0 ∷ 0 ∷ 0 ∷ []) ∷ node 16877 2 32 (13 ∷ 0 ∷ 0 ∷ 0 ∷ 0 ∷ 0 ∷ 0 ∷ 0 ∷ 0 ∷ 0 ∷ []) ∷ []) (zone_with 5 (file 1024 (piece 0 (hex 3 0x01002e) ∷ piece 16 (hex 4 0x01002e2e) ∷ piece 32 (hex 3 0x020070) ∷ piece 48 (hex 3 0x030061) ∷ piece 64 (hex 3 0x06006c) ∷ piece 80 (hex 3 0x090072) ∷ [])) ∷ zone_with 6 (file 1024 (piece 0 (hex 3 0x02002e) ∷ piece 16 (hex 4 0x01002e2e) ∷ piece 32 (hex 3 0x040071) ∷ piece 48 (hex 3 0x050062) ∷ [])) ∷ zone_with 8 (file 1024 (piece 0 (hex 3 0x04002e) ∷ piece 16 (hex 4 0x02002e2e) ∷ piece 32 (hex 3 0x070063) ∷ piece 48 (hex 3 0x080064) ∷ [])) ∷ zone_with 13 (file 1024 (piece 0 (hex 3 0x09002e) ∷ piece 16 (hex 4 0x01002e2e) ∷ [])) ∷ []) (1 ∷ 2 ∷ 3 ∷ 4 ∷ 5 ∷ 6 ∷ 7 ∷ 8 ∷ 9 ∷ []) (5 ∷ 6 ∷ 7 ∷ 8 ∷ 9 ∷ 10 ∷ 11 ∷ 12 ∷ 13 ∷ [])) ≡ Err (BadLink 1 3)
unfolding number16 number32 is_zero kind_of super_of super_checks super_in super_at v1_inode v2_inode inode_of inode_at inode_place bit with_bit parts_of number_in follow pointer_by inside follow_at zone_at block_at content_at entry_of entry_at find_entry entries_at is_dots zone_number block content entry first_named lookup reached thing names names_in was_reached with_inode survey_walk owner names_of has_name judge judged survey_of is_indirect
minix_survey_mode_0_in_version_1_with_short_names = refl

-- root is a file in version 1 with short names
pub minix_survey_root_is_a_file_in_version_1_with_short_names : survey_found (volume_by (super_with V1Short 16 48 1 1 5) (node 33188 4 96 (5 ∷ 0 ∷ 0 ∷ 0 ∷ 0 ∷ 0 ∷ 0 ∷ 0 ∷ 0 ∷ 0 ∷ []) ∷ node 16877 3 64 (6 ∷ 0 ∷ 0 ∷ 0 ∷ 0 ∷ 0 ∷ 0 ∷ 0 ∷ 0 ∷ 0 ∷ []) ∷ node 33188 1 4 (7 ∷ 0 ∷ 0 ∷ 0 ∷ 0 ∷ 0 ∷ 0 ∷ 0 ∷ 0 ∷ 0 ∷ []) ∷ node 16877 2 64 (8 ∷ 0 ∷ 0 ∷ 0 ∷ 0 ∷ 0 ∷ 0 ∷ 0 ∷ 0 ∷ 0 ∷ []) ∷ node 33188 1 2000 (9 ∷ 10 ∷ 0 ∷ 0 ∷ 0 ∷ 0 ∷ 0 ∷ 0 ∷ 0 ∷ 0 ∷ []) ∷ node 41471 1 3 (11 ∷ 0 ∷ 0 ∷ 0 ∷ 0 ∷ 0 ∷ 0 ∷ 0 ∷ 0 ∷ 0 ∷ []) ∷ node 33188 1 1 (12 ∷ 0 ∷ 0 ∷ 0 ∷ 0 ∷ 0 ∷ 0 ∷ 0 ∷ 0 ∷ 0 ∷ []) ∷ node 33188 1 0 (0 ∷ 0 ∷ 0 ∷ 0 ∷ 0 ∷ 0 ∷ 0 ∷ 0 ∷ 0 ∷ 0 ∷ []) ∷ node 16877 2 32 (13 ∷ 0 ∷ 0 ∷ 0 ∷ 0 ∷ 0 ∷ 0 ∷ 0 ∷ 0 ∷ 0 ∷ []) ∷ []) (zone_with 6 (file 1024 (piece 0 (hex 3 0x02002e) ∷ piece 16 (hex 4 0x01002e2e) ∷ piece 32 (hex 3 0x040071) ∷ piece 48 (hex 3 0x050062) ∷ [])) ∷ zone_with 8 (file 1024 (piece 0 (hex 3 0x04002e) ∷ piece 16 (hex 4 0x02002e2e) ∷ piece 32 (hex 3 0x070063) ∷ piece 48 (hex 3 0x080064) ∷ [])) ∷ zone_with 13 (file 1024 (piece 0 (hex 3 0x09002e) ∷ piece 16 (hex 4 0x01002e2e) ∷ [])) ∷ []) (1 ∷ 2 ∷ 3 ∷ 4 ∷ 5 ∷ 6 ∷ 7 ∷ 8 ∷ 9 ∷ []) (5 ∷ 6 ∷ 7 ∷ 8 ∷ 9 ∷ 10 ∷ 11 ∷ 12 ∷ 13 ∷ [])) ≡ Err (Tree (NotDirectory 0))
unfolding number16 number32 is_zero kind_of super_of super_checks super_in super_at v1_inode v2_inode inode_of inode_at inode_place bit with_bit parts_of number_in follow pointer_by inside follow_at zone_at block_at content_at entry_of entry_at find_entry entries_at is_dots zone_number block content entry first_named lookup reached thing names names_in was_reached with_inode survey_walk owner names_of has_name judge judged survey_of is_indirect
minix_survey_root_is_a_file_in_version_1_with_short_names = refl

-- entry out of range in version 1 with short names
pub minix_survey_entry_out_of_range_in_version_1_with_short_names : survey_found (volume_by (super_with V1Short 16 48 1 1 5) (node 16877 4 96 (5 ∷ 0 ∷ 0 ∷ 0 ∷ 0 ∷ 0 ∷ 0 ∷ 0 ∷ 0 ∷ 0 ∷ []) ∷ node 16877 3 64 (6 ∷ 0 ∷ 0 ∷ 0 ∷ 0 ∷ 0 ∷ 0 ∷ 0 ∷ 0 ∷ 0 ∷ []) ∷ node 33188 1 4 (7 ∷ 0 ∷ 0 ∷ 0 ∷ 0 ∷ 0 ∷ 0 ∷ 0 ∷ 0 ∷ 0 ∷ []) ∷ node 16877 2 64 (8 ∷ 0 ∷ 0 ∷ 0 ∷ 0 ∷ 0 ∷ 0 ∷ 0 ∷ 0 ∷ 0 ∷ []) ∷ node 33188 1 2000 (9 ∷ 10 ∷ 0 ∷ 0 ∷ 0 ∷ 0 ∷ 0 ∷ 0 ∷ 0 ∷ 0 ∷ []) ∷ node 41471 1 3 (11 ∷ 0 ∷ 0 ∷ 0 ∷ 0 ∷ 0 ∷ 0 ∷ 0 ∷ 0 ∷ 0 ∷ []) ∷ node 33188 1 1 (12 ∷ 0 ∷ 0 ∷ 0 ∷ 0 ∷ 0 ∷ 0 ∷ 0 ∷ 0 ∷ 0 ∷ []) ∷ node 33188 1 0 (0 ∷ 0 ∷ 0 ∷ 0 ∷ 0 ∷ 0 ∷ 0 ∷ 0 ∷ 0 ∷ 0 ∷ []) ∷ node 16877 2 32 (13 ∷ 0 ∷ 0 ∷ 0 ∷ 0 ∷ 0 ∷ 0 ∷ 0 ∷ 0 ∷ 0 ∷ []) ∷ []) (zone_with 5 (file 1024 (piece 0 (hex 3 0x01002e) ∷ piece 16 (hex 4 0x01002e2e) ∷ piece 32 (hex 3 0x020070) ∷ piece 48 (hex 3 0x030061) ∷ piece 64 (hex 3 0x06006c) ∷ piece 80 (hex 3 0x090072) ∷ [])) ∷ zone_with 6 (file 1024 (piece 0 (hex 3 0x02002e) ∷ piece 16 (hex 4 0x01002e2e) ∷ piece 32 (hex 5 0xffff666172) ∷ piece 48 (hex 3 0x050062) ∷ [])) ∷ zone_with 8 (file 1024 (piece 0 (hex 3 0x04002e) ∷ piece 16 (hex 4 0x02002e2e) ∷ piece 32 (hex 3 0x070063) ∷ piece 48 (hex 3 0x080064) ∷ [])) ∷ zone_with 13 (file 1024 (piece 0 (hex 3 0x09002e) ∷ piece 16 (hex 4 0x01002e2e) ∷ [])) ∷ []) (1 ∷ 2 ∷ 3 ∷ 4 ∷ 5 ∷ 6 ∷ 7 ∷ 8 ∷ 9 ∷ []) (5 ∷ 6 ∷ 7 ∷ 8 ∷ 9 ∷ 10 ∷ 11 ∷ 12 ∷ 13 ∷ [])) ≡ Err (BadLink 2 2)
unfolding number16 number32 is_zero kind_of super_of super_checks super_in super_at v1_inode v2_inode inode_of inode_at inode_place bit with_bit parts_of number_in follow pointer_by inside follow_at zone_at block_at content_at entry_of entry_at find_entry entries_at is_dots zone_number block content entry first_named lookup reached thing names names_in was_reached with_inode survey_walk owner names_of has_name judge judged survey_of is_indirect
minix_survey_entry_out_of_range_in_version_1_with_short_names = refl

-- entry out of range in version 1 with short names
pub minix_survey_entry_out_of_range_in_version_1_with_short_names_2 : survey_found (volume_by (super_with V1Short 16 48 1 1 5) (node 16877 4 96 (5 ∷ 0 ∷ 0 ∷ 0 ∷ 0 ∷ 0 ∷ 0 ∷ 0 ∷ 0 ∷ 0 ∷ []) ∷ node 16877 3 64 (6 ∷ 0 ∷ 0 ∷ 0 ∷ 0 ∷ 0 ∷ 0 ∷ 0 ∷ 0 ∷ 0 ∷ []) ∷ node 33188 1 4 (7 ∷ 0 ∷ 0 ∷ 0 ∷ 0 ∷ 0 ∷ 0 ∷ 0 ∷ 0 ∷ 0 ∷ []) ∷ node 16877 2 64 (8 ∷ 0 ∷ 0 ∷ 0 ∷ 0 ∷ 0 ∷ 0 ∷ 0 ∷ 0 ∷ 0 ∷ []) ∷ node 33188 1 2000 (9 ∷ 10 ∷ 0 ∷ 0 ∷ 0 ∷ 0 ∷ 0 ∷ 0 ∷ 0 ∷ 0 ∷ []) ∷ node 41471 1 3 (11 ∷ 0 ∷ 0 ∷ 0 ∷ 0 ∷ 0 ∷ 0 ∷ 0 ∷ 0 ∷ 0 ∷ []) ∷ node 33188 1 1 (12 ∷ 0 ∷ 0 ∷ 0 ∷ 0 ∷ 0 ∷ 0 ∷ 0 ∷ 0 ∷ 0 ∷ []) ∷ node 33188 1 0 (0 ∷ 0 ∷ 0 ∷ 0 ∷ 0 ∷ 0 ∷ 0 ∷ 0 ∷ 0 ∷ 0 ∷ []) ∷ node 16877 2 32 (13 ∷ 0 ∷ 0 ∷ 0 ∷ 0 ∷ 0 ∷ 0 ∷ 0 ∷ 0 ∷ 0 ∷ []) ∷ []) (zone_with 5 (file 1024 (piece 0 (hex 3 0x01002e) ∷ piece 16 (hex 4 0x01002e2e) ∷ piece 32 (hex 3 0x020070) ∷ piece 48 (hex 5 0x1200666172) ∷ piece 64 (hex 3 0x06006c) ∷ piece 80 (hex 3 0x090072) ∷ [])) ∷ zone_with 6 (file 1024 (piece 0 (hex 3 0x02002e) ∷ piece 16 (hex 4 0x01002e2e) ∷ piece 32 (hex 3 0x040071) ∷ piece 48 (hex 3 0x050062) ∷ [])) ∷ zone_with 8 (file 1024 (piece 0 (hex 3 0x04002e) ∷ piece 16 (hex 4 0x02002e2e) ∷ piece 32 (hex 3 0x070063) ∷ piece 48 (hex 3 0x080064) ∷ [])) ∷ zone_with 13 (file 1024 (piece 0 (hex 3 0x09002e) ∷ piece 16 (hex 4 0x01002e2e) ∷ [])) ∷ []) (1 ∷ 2 ∷ 3 ∷ 4 ∷ 5 ∷ 6 ∷ 7 ∷ 8 ∷ 9 ∷ []) (5 ∷ 6 ∷ 7 ∷ 8 ∷ 9 ∷ 10 ∷ 11 ∷ 12 ∷ 13 ∷ [])) ≡ Err (BadLink 1 3)
unfolding number16 number32 is_zero kind_of super_of super_checks super_in super_at v1_inode v2_inode inode_of inode_at inode_place bit with_bit parts_of number_in follow pointer_by inside follow_at zone_at block_at content_at entry_of entry_at find_entry entries_at is_dots zone_number block content entry first_named lookup reached thing names names_in was_reached with_inode survey_walk owner names_of has_name judge judged survey_of is_indirect
minix_survey_entry_out_of_range_in_version_1_with_short_names_2 = refl

-- entry of the root in version 1 with short names
pub minix_survey_entry_of_the_root_in_version_1_with_short_names : survey_found (volume_by (super_with V1Short 16 48 1 1 5) (node 16877 4 96 (5 ∷ 0 ∷ 0 ∷ 0 ∷ 0 ∷ 0 ∷ 0 ∷ 0 ∷ 0 ∷ 0 ∷ []) ∷ node 16877 3 64 (6 ∷ 0 ∷ 0 ∷ 0 ∷ 0 ∷ 0 ∷ 0 ∷ 0 ∷ 0 ∷ 0 ∷ []) ∷ node 33188 1 4 (7 ∷ 0 ∷ 0 ∷ 0 ∷ 0 ∷ 0 ∷ 0 ∷ 0 ∷ 0 ∷ 0 ∷ []) ∷ node 16877 2 64 (8 ∷ 0 ∷ 0 ∷ 0 ∷ 0 ∷ 0 ∷ 0 ∷ 0 ∷ 0 ∷ 0 ∷ []) ∷ node 33188 1 2000 (9 ∷ 10 ∷ 0 ∷ 0 ∷ 0 ∷ 0 ∷ 0 ∷ 0 ∷ 0 ∷ 0 ∷ []) ∷ node 41471 1 3 (11 ∷ 0 ∷ 0 ∷ 0 ∷ 0 ∷ 0 ∷ 0 ∷ 0 ∷ 0 ∷ 0 ∷ []) ∷ node 33188 1 1 (12 ∷ 0 ∷ 0 ∷ 0 ∷ 0 ∷ 0 ∷ 0 ∷ 0 ∷ 0 ∷ 0 ∷ []) ∷ node 33188 1 0 (0 ∷ 0 ∷ 0 ∷ 0 ∷ 0 ∷ 0 ∷ 0 ∷ 0 ∷ 0 ∷ 0 ∷ []) ∷ node 16877 2 32 (13 ∷ 0 ∷ 0 ∷ 0 ∷ 0 ∷ 0 ∷ 0 ∷ 0 ∷ 0 ∷ 0 ∷ []) ∷ []) (zone_with 5 (file 1024 (piece 0 (hex 3 0x01002e) ∷ piece 16 (hex 4 0x01002e2e) ∷ piece 32 (hex 3 0x020070) ∷ piece 48 (hex 3 0x030061) ∷ piece 64 (hex 3 0x06006c) ∷ piece 80 (hex 3 0x090072) ∷ [])) ∷ zone_with 6 (file 1024 (piece 0 (hex 3 0x02002e) ∷ piece 16 (hex 4 0x01002e2e) ∷ piece 32 (hex 3 0x040071) ∷ piece 48 (hex 3 0x050062) ∷ [])) ∷ zone_with 8 (file 1024 (piece 0 (hex 3 0x04002e) ∷ piece 16 (hex 4 0x02002e2e) ∷ piece 32 (hex 3 0x070063) ∷ piece 48 (hex 4 0x01007274) ∷ [])) ∷ zone_with 13 (file 1024 (piece 0 (hex 3 0x09002e) ∷ piece 16 (hex 4 0x01002e2e) ∷ [])) ∷ []) (1 ∷ 2 ∷ 3 ∷ 4 ∷ 5 ∷ 6 ∷ 7 ∷ 8 ∷ 9 ∷ []) (5 ∷ 6 ∷ 7 ∷ 8 ∷ 9 ∷ 10 ∷ 11 ∷ 12 ∷ 13 ∷ [])) ≡ Err (BadLink 4 3)
unfolding number16 number32 is_zero kind_of super_of super_checks super_in super_at v1_inode v2_inode inode_of inode_at inode_place bit with_bit parts_of number_in follow pointer_by inside follow_at zone_at block_at content_at entry_of entry_at find_entry entries_at is_dots zone_number block content entry first_named lookup reached thing names names_in was_reached with_inode survey_walk owner names_of has_name judge judged survey_of is_indirect
minix_survey_entry_of_the_root_in_version_1_with_short_names = refl

-- second name of a directory in version 1 with short names
pub minix_survey_second_name_of_a_directory_in_version_1_with_short_names : survey_found (volume_by (super_with V1Short 16 48 1 1 5) (node 16877 4 96 (5 ∷ 0 ∷ 0 ∷ 0 ∷ 0 ∷ 0 ∷ 0 ∷ 0 ∷ 0 ∷ 0 ∷ []) ∷ node 16877 3 64 (6 ∷ 0 ∷ 0 ∷ 0 ∷ 0 ∷ 0 ∷ 0 ∷ 0 ∷ 0 ∷ 0 ∷ []) ∷ node 33188 1 4 (7 ∷ 0 ∷ 0 ∷ 0 ∷ 0 ∷ 0 ∷ 0 ∷ 0 ∷ 0 ∷ 0 ∷ []) ∷ node 16877 2 64 (8 ∷ 0 ∷ 0 ∷ 0 ∷ 0 ∷ 0 ∷ 0 ∷ 0 ∷ 0 ∷ 0 ∷ []) ∷ node 33188 1 2000 (9 ∷ 10 ∷ 0 ∷ 0 ∷ 0 ∷ 0 ∷ 0 ∷ 0 ∷ 0 ∷ 0 ∷ []) ∷ node 41471 1 3 (11 ∷ 0 ∷ 0 ∷ 0 ∷ 0 ∷ 0 ∷ 0 ∷ 0 ∷ 0 ∷ 0 ∷ []) ∷ node 33188 1 1 (12 ∷ 0 ∷ 0 ∷ 0 ∷ 0 ∷ 0 ∷ 0 ∷ 0 ∷ 0 ∷ 0 ∷ []) ∷ node 33188 1 0 (0 ∷ 0 ∷ 0 ∷ 0 ∷ 0 ∷ 0 ∷ 0 ∷ 0 ∷ 0 ∷ 0 ∷ []) ∷ node 16877 2 32 (13 ∷ 0 ∷ 0 ∷ 0 ∷ 0 ∷ 0 ∷ 0 ∷ 0 ∷ 0 ∷ 0 ∷ []) ∷ []) (zone_with 5 (file 1024 (piece 0 (hex 3 0x01002e) ∷ piece 16 (hex 4 0x01002e2e) ∷ piece 32 (hex 3 0x020070) ∷ piece 48 (hex 4 0x04006464) ∷ piece 64 (hex 3 0x06006c) ∷ piece 80 (hex 3 0x090072) ∷ [])) ∷ zone_with 6 (file 1024 (piece 0 (hex 3 0x02002e) ∷ piece 16 (hex 4 0x01002e2e) ∷ piece 32 (hex 3 0x040071) ∷ piece 48 (hex 3 0x050062) ∷ [])) ∷ zone_with 8 (file 1024 (piece 0 (hex 3 0x04002e) ∷ piece 16 (hex 4 0x02002e2e) ∷ piece 32 (hex 3 0x070063) ∷ piece 48 (hex 3 0x080064) ∷ [])) ∷ zone_with 13 (file 1024 (piece 0 (hex 3 0x09002e) ∷ piece 16 (hex 4 0x01002e2e) ∷ [])) ∷ []) (1 ∷ 2 ∷ 3 ∷ 4 ∷ 5 ∷ 6 ∷ 7 ∷ 8 ∷ 9 ∷ []) (5 ∷ 6 ∷ 7 ∷ 8 ∷ 9 ∷ 10 ∷ 11 ∷ 12 ∷ 13 ∷ [])) ≡ Err (BadLink 1 3)
unfolding number16 number32 is_zero kind_of super_of super_checks super_in super_at v1_inode v2_inode inode_of inode_at inode_place bit with_bit parts_of number_in follow pointer_by inside follow_at zone_at block_at content_at entry_of entry_at find_entry entries_at is_dots zone_number block content entry first_named lookup reached thing names names_in was_reached with_inode survey_walk owner names_of has_name judge judged survey_of is_indirect
minix_survey_second_name_of_a_directory_in_version_1_with_short_names = refl

-- one more name of a file in version 1 with short names
pub minix_survey_one_more_name_of_a_file_in_version_1_with_short_names : survey_found (volume_by (super_with V1Short 16 48 1 1 5) (node 16877 4 96 (5 ∷ 0 ∷ 0 ∷ 0 ∷ 0 ∷ 0 ∷ 0 ∷ 0 ∷ 0 ∷ 0 ∷ []) ∷ node 16877 3 64 (6 ∷ 0 ∷ 0 ∷ 0 ∷ 0 ∷ 0 ∷ 0 ∷ 0 ∷ 0 ∷ 0 ∷ []) ∷ node 33188 2 4 (7 ∷ 0 ∷ 0 ∷ 0 ∷ 0 ∷ 0 ∷ 0 ∷ 0 ∷ 0 ∷ 0 ∷ []) ∷ node 16877 2 64 (8 ∷ 0 ∷ 0 ∷ 0 ∷ 0 ∷ 0 ∷ 0 ∷ 0 ∷ 0 ∷ 0 ∷ []) ∷ node 33188 1 2000 (9 ∷ 10 ∷ 0 ∷ 0 ∷ 0 ∷ 0 ∷ 0 ∷ 0 ∷ 0 ∷ 0 ∷ []) ∷ node 41471 1 3 (11 ∷ 0 ∷ 0 ∷ 0 ∷ 0 ∷ 0 ∷ 0 ∷ 0 ∷ 0 ∷ 0 ∷ []) ∷ node 33188 1 1 (12 ∷ 0 ∷ 0 ∷ 0 ∷ 0 ∷ 0 ∷ 0 ∷ 0 ∷ 0 ∷ 0 ∷ []) ∷ node 33188 1 0 (0 ∷ 0 ∷ 0 ∷ 0 ∷ 0 ∷ 0 ∷ 0 ∷ 0 ∷ 0 ∷ 0 ∷ []) ∷ node 16877 2 48 (13 ∷ 0 ∷ 0 ∷ 0 ∷ 0 ∷ 0 ∷ 0 ∷ 0 ∷ 0 ∷ 0 ∷ []) ∷ []) (zone_with 5 (file 1024 (piece 0 (hex 3 0x01002e) ∷ piece 16 (hex 4 0x01002e2e) ∷ piece 32 (hex 3 0x020070) ∷ piece 48 (hex 3 0x030061) ∷ piece 64 (hex 3 0x06006c) ∷ piece 80 (hex 3 0x090072) ∷ [])) ∷ zone_with 6 (file 1024 (piece 0 (hex 3 0x02002e) ∷ piece 16 (hex 4 0x01002e2e) ∷ piece 32 (hex 3 0x040071) ∷ piece 48 (hex 3 0x050062) ∷ [])) ∷ zone_with 8 (file 1024 (piece 0 (hex 3 0x04002e) ∷ piece 16 (hex 4 0x02002e2e) ∷ piece 32 (hex 3 0x070063) ∷ piece 48 (hex 3 0x080064) ∷ [])) ∷ zone_with 13 (file 1024 (piece 0 (hex 3 0x09002e) ∷ piece 16 (hex 4 0x01002e2e) ∷ piece 32 (hex 6 0x07006d6f7265) ∷ [])) ∷ []) (1 ∷ 2 ∷ 3 ∷ 4 ∷ 5 ∷ 6 ∷ 7 ∷ 8 ∷ 9 ∷ []) (5 ∷ 6 ∷ 7 ∷ 8 ∷ 9 ∷ 10 ∷ 11 ∷ 12 ∷ 13 ∷ [])) ≡ Err (FewLinks 7)
unfolding number16 number32 is_zero kind_of super_of super_checks super_in super_at v1_inode v2_inode inode_of inode_at inode_place bit with_bit parts_of number_in follow pointer_by inside follow_at zone_at block_at content_at entry_of entry_at find_entry entries_at is_dots zone_number block content entry first_named lookup reached thing names names_in was_reached with_inode survey_walk owner names_of has_name judge judged survey_of is_indirect
minix_survey_one_more_name_of_a_file_in_version_1_with_short_names = refl

-- one more name of a file in version 1 with short names
pub minix_survey_one_more_name_of_a_file_in_version_1_with_short_names_2 : survey_found (volume_by (super_with V1Short 16 48 1 1 5) (node 16877 4 96 (5 ∷ 0 ∷ 0 ∷ 0 ∷ 0 ∷ 0 ∷ 0 ∷ 0 ∷ 0 ∷ 0 ∷ []) ∷ node 16877 3 80 (6 ∷ 0 ∷ 0 ∷ 0 ∷ 0 ∷ 0 ∷ 0 ∷ 0 ∷ 0 ∷ 0 ∷ []) ∷ node 33188 1 4 (7 ∷ 0 ∷ 0 ∷ 0 ∷ 0 ∷ 0 ∷ 0 ∷ 0 ∷ 0 ∷ 0 ∷ []) ∷ node 16877 2 64 (8 ∷ 0 ∷ 0 ∷ 0 ∷ 0 ∷ 0 ∷ 0 ∷ 0 ∷ 0 ∷ 0 ∷ []) ∷ node 33188 1 2000 (9 ∷ 10 ∷ 0 ∷ 0 ∷ 0 ∷ 0 ∷ 0 ∷ 0 ∷ 0 ∷ 0 ∷ []) ∷ node 41471 1 3 (11 ∷ 0 ∷ 0 ∷ 0 ∷ 0 ∷ 0 ∷ 0 ∷ 0 ∷ 0 ∷ 0 ∷ []) ∷ node 33188 1 1 (12 ∷ 0 ∷ 0 ∷ 0 ∷ 0 ∷ 0 ∷ 0 ∷ 0 ∷ 0 ∷ 0 ∷ []) ∷ node 33188 1 0 (0 ∷ 0 ∷ 0 ∷ 0 ∷ 0 ∷ 0 ∷ 0 ∷ 0 ∷ 0 ∷ 0 ∷ []) ∷ node 16877 2 32 (13 ∷ 0 ∷ 0 ∷ 0 ∷ 0 ∷ 0 ∷ 0 ∷ 0 ∷ 0 ∷ 0 ∷ []) ∷ []) (zone_with 5 (file 1024 (piece 0 (hex 3 0x01002e) ∷ piece 16 (hex 4 0x01002e2e) ∷ piece 32 (hex 3 0x020070) ∷ piece 48 (hex 3 0x030061) ∷ piece 64 (hex 3 0x06006c) ∷ piece 80 (hex 3 0x090072) ∷ [])) ∷ zone_with 6 (file 1024 (piece 0 (hex 3 0x02002e) ∷ piece 16 (hex 4 0x01002e2e) ∷ piece 32 (hex 3 0x040071) ∷ piece 48 (hex 3 0x050062) ∷ piece 64 (hex 6 0x05006d6f7265) ∷ [])) ∷ zone_with 8 (file 1024 (piece 0 (hex 3 0x04002e) ∷ piece 16 (hex 4 0x02002e2e) ∷ piece 32 (hex 3 0x070063) ∷ piece 48 (hex 3 0x080064) ∷ [])) ∷ zone_with 13 (file 1024 (piece 0 (hex 3 0x09002e) ∷ piece 16 (hex 4 0x01002e2e) ∷ [])) ∷ []) (1 ∷ 2 ∷ 3 ∷ 4 ∷ 5 ∷ 6 ∷ 7 ∷ 8 ∷ 9 ∷ []) (5 ∷ 6 ∷ 7 ∷ 8 ∷ 9 ∷ 10 ∷ 11 ∷ 12 ∷ 13 ∷ [])) ≡ Err (FewLinks 5)
unfolding number16 number32 is_zero kind_of super_of super_checks super_in super_at v1_inode v2_inode inode_of inode_at inode_place bit with_bit parts_of number_in follow pointer_by inside follow_at zone_at block_at content_at entry_of entry_at find_entry entries_at is_dots zone_number block content entry first_named lookup reached thing names names_in was_reached with_inode survey_walk owner names_of has_name judge judged survey_of is_indirect
minix_survey_one_more_name_of_a_file_in_version_1_with_short_names_2 = refl

-- name twice in version 1 with short names
pub minix_survey_name_twice_in_version_1_with_short_names : survey_found (volume_by (super_with V1Short 16 48 1 1 5) (node 16877 4 96 (5 ∷ 0 ∷ 0 ∷ 0 ∷ 0 ∷ 0 ∷ 0 ∷ 0 ∷ 0 ∷ 0 ∷ []) ∷ node 16877 3 64 (6 ∷ 0 ∷ 0 ∷ 0 ∷ 0 ∷ 0 ∷ 0 ∷ 0 ∷ 0 ∷ 0 ∷ []) ∷ node 33188 1 4 (7 ∷ 0 ∷ 0 ∷ 0 ∷ 0 ∷ 0 ∷ 0 ∷ 0 ∷ 0 ∷ 0 ∷ []) ∷ node 16877 2 64 (8 ∷ 0 ∷ 0 ∷ 0 ∷ 0 ∷ 0 ∷ 0 ∷ 0 ∷ 0 ∷ 0 ∷ []) ∷ node 33188 1 2000 (9 ∷ 10 ∷ 0 ∷ 0 ∷ 0 ∷ 0 ∷ 0 ∷ 0 ∷ 0 ∷ 0 ∷ []) ∷ node 41471 1 3 (11 ∷ 0 ∷ 0 ∷ 0 ∷ 0 ∷ 0 ∷ 0 ∷ 0 ∷ 0 ∷ 0 ∷ []) ∷ node 33188 1 1 (12 ∷ 0 ∷ 0 ∷ 0 ∷ 0 ∷ 0 ∷ 0 ∷ 0 ∷ 0 ∷ 0 ∷ []) ∷ node 33188 1 0 (0 ∷ 0 ∷ 0 ∷ 0 ∷ 0 ∷ 0 ∷ 0 ∷ 0 ∷ 0 ∷ 0 ∷ []) ∷ node 16877 2 48 (13 ∷ 0 ∷ 0 ∷ 0 ∷ 0 ∷ 0 ∷ 0 ∷ 0 ∷ 0 ∷ 0 ∷ []) ∷ []) (zone_with 5 (file 1024 (piece 0 (hex 3 0x01002e) ∷ piece 16 (hex 4 0x01002e2e) ∷ piece 32 (hex 3 0x020070) ∷ piece 48 (hex 3 0x030061) ∷ piece 64 (hex 3 0x06006c) ∷ piece 80 (hex 3 0x090072) ∷ [])) ∷ zone_with 6 (file 1024 (piece 0 (hex 3 0x02002e) ∷ piece 16 (hex 4 0x01002e2e) ∷ piece 32 (hex 3 0x040071) ∷ piece 48 (hex 3 0x050062) ∷ [])) ∷ zone_with 8 (file 1024 (piece 0 (hex 3 0x04002e) ∷ piece 16 (hex 4 0x02002e2e) ∷ piece 32 (hex 3 0x070063) ∷ piece 48 (hex 3 0x080064) ∷ [])) ∷ zone_with 13 (file 1024 (piece 0 (hex 3 0x09002e) ∷ piece 16 (hex 4 0x01002e2e) ∷ piece 32 (hex 3 0x03002e) ∷ [])) ∷ []) (1 ∷ 2 ∷ 3 ∷ 4 ∷ 5 ∷ 6 ∷ 7 ∷ 8 ∷ 9 ∷ []) (5 ∷ 6 ∷ 7 ∷ 8 ∷ 9 ∷ 10 ∷ 11 ∷ 12 ∷ 13 ∷ [])) ≡ Err (BadLink 9 2)
unfolding number16 number32 is_zero kind_of super_of super_checks super_in super_at v1_inode v2_inode inode_of inode_at inode_place bit with_bit parts_of number_in follow pointer_by inside follow_at zone_at block_at content_at entry_of entry_at find_entry entries_at is_dots zone_number block content entry first_named lookup reached thing names names_in was_reached with_inode survey_walk owner names_of has_name judge judged survey_of is_indirect
minix_survey_name_twice_in_version_1_with_short_names = refl

-- . wrong in version 1 with short names
pub minix_survey_dot_wrong_in_version_1_with_short_names : survey_found (volume_by (super_with V1Short 16 48 1 1 5) (node 16877 4 96 (5 ∷ 0 ∷ 0 ∷ 0 ∷ 0 ∷ 0 ∷ 0 ∷ 0 ∷ 0 ∷ 0 ∷ []) ∷ node 16877 3 64 (6 ∷ 0 ∷ 0 ∷ 0 ∷ 0 ∷ 0 ∷ 0 ∷ 0 ∷ 0 ∷ 0 ∷ []) ∷ node 33188 1 4 (7 ∷ 0 ∷ 0 ∷ 0 ∷ 0 ∷ 0 ∷ 0 ∷ 0 ∷ 0 ∷ 0 ∷ []) ∷ node 16877 2 64 (8 ∷ 0 ∷ 0 ∷ 0 ∷ 0 ∷ 0 ∷ 0 ∷ 0 ∷ 0 ∷ 0 ∷ []) ∷ node 33188 1 2000 (9 ∷ 10 ∷ 0 ∷ 0 ∷ 0 ∷ 0 ∷ 0 ∷ 0 ∷ 0 ∷ 0 ∷ []) ∷ node 41471 1 3 (11 ∷ 0 ∷ 0 ∷ 0 ∷ 0 ∷ 0 ∷ 0 ∷ 0 ∷ 0 ∷ 0 ∷ []) ∷ node 33188 1 1 (12 ∷ 0 ∷ 0 ∷ 0 ∷ 0 ∷ 0 ∷ 0 ∷ 0 ∷ 0 ∷ 0 ∷ []) ∷ node 33188 1 0 (0 ∷ 0 ∷ 0 ∷ 0 ∷ 0 ∷ 0 ∷ 0 ∷ 0 ∷ 0 ∷ 0 ∷ []) ∷ node 16877 2 32 (13 ∷ 0 ∷ 0 ∷ 0 ∷ 0 ∷ 0 ∷ 0 ∷ 0 ∷ 0 ∷ 0 ∷ []) ∷ []) (zone_with 5 (file 1024 (piece 0 (hex 3 0x01002e) ∷ piece 16 (hex 4 0x01002e2e) ∷ piece 32 (hex 3 0x020070) ∷ piece 48 (hex 3 0x030061) ∷ piece 64 (hex 3 0x06006c) ∷ piece 80 (hex 3 0x090072) ∷ [])) ∷ zone_with 6 (file 1024 (piece 0 (hex 3 0x02002e) ∷ piece 16 (hex 4 0x01002e2e) ∷ piece 32 (hex 3 0x040071) ∷ piece 48 (hex 3 0x050062) ∷ [])) ∷ zone_with 8 (file 1024 (piece 0 (hex 3 0x07002e) ∷ piece 16 (hex 4 0x02002e2e) ∷ piece 32 (hex 3 0x070063) ∷ piece 48 (hex 3 0x080064) ∷ [])) ∷ zone_with 13 (file 1024 (piece 0 (hex 3 0x09002e) ∷ piece 16 (hex 4 0x01002e2e) ∷ [])) ∷ []) (1 ∷ 2 ∷ 3 ∷ 4 ∷ 5 ∷ 6 ∷ 7 ∷ 8 ∷ 9 ∷ []) (5 ∷ 6 ∷ 7 ∷ 8 ∷ 9 ∷ 10 ∷ 11 ∷ 12 ∷ 13 ∷ [])) ≡ Err (BadLink 4 0)
unfolding number16 number32 is_zero kind_of super_of super_checks super_in super_at v1_inode v2_inode inode_of inode_at inode_place bit with_bit parts_of number_in follow pointer_by inside follow_at zone_at block_at content_at entry_of entry_at find_entry entries_at is_dots zone_number block content entry first_named lookup reached thing names names_in was_reached with_inode survey_walk owner names_of has_name judge judged survey_of is_indirect
minix_survey_dot_wrong_in_version_1_with_short_names = refl

-- .. wrong in version 1 with short names
pub minix_survey_dotdot_wrong_in_version_1_with_short_names : survey_found (volume_by (super_with V1Short 16 48 1 1 5) (node 16877 4 96 (5 ∷ 0 ∷ 0 ∷ 0 ∷ 0 ∷ 0 ∷ 0 ∷ 0 ∷ 0 ∷ 0 ∷ []) ∷ node 16877 3 64 (6 ∷ 0 ∷ 0 ∷ 0 ∷ 0 ∷ 0 ∷ 0 ∷ 0 ∷ 0 ∷ 0 ∷ []) ∷ node 33188 1 4 (7 ∷ 0 ∷ 0 ∷ 0 ∷ 0 ∷ 0 ∷ 0 ∷ 0 ∷ 0 ∷ 0 ∷ []) ∷ node 16877 2 64 (8 ∷ 0 ∷ 0 ∷ 0 ∷ 0 ∷ 0 ∷ 0 ∷ 0 ∷ 0 ∷ 0 ∷ []) ∷ node 33188 1 2000 (9 ∷ 10 ∷ 0 ∷ 0 ∷ 0 ∷ 0 ∷ 0 ∷ 0 ∷ 0 ∷ 0 ∷ []) ∷ node 41471 1 3 (11 ∷ 0 ∷ 0 ∷ 0 ∷ 0 ∷ 0 ∷ 0 ∷ 0 ∷ 0 ∷ 0 ∷ []) ∷ node 33188 1 1 (12 ∷ 0 ∷ 0 ∷ 0 ∷ 0 ∷ 0 ∷ 0 ∷ 0 ∷ 0 ∷ 0 ∷ []) ∷ node 33188 1 0 (0 ∷ 0 ∷ 0 ∷ 0 ∷ 0 ∷ 0 ∷ 0 ∷ 0 ∷ 0 ∷ 0 ∷ []) ∷ node 16877 2 32 (13 ∷ 0 ∷ 0 ∷ 0 ∷ 0 ∷ 0 ∷ 0 ∷ 0 ∷ 0 ∷ 0 ∷ []) ∷ []) (zone_with 5 (file 1024 (piece 0 (hex 3 0x01002e) ∷ piece 16 (hex 4 0x03002e2e) ∷ piece 32 (hex 3 0x020070) ∷ piece 48 (hex 3 0x030061) ∷ piece 64 (hex 3 0x06006c) ∷ piece 80 (hex 3 0x090072) ∷ [])) ∷ zone_with 6 (file 1024 (piece 0 (hex 3 0x02002e) ∷ piece 16 (hex 4 0x01002e2e) ∷ piece 32 (hex 3 0x040071) ∷ piece 48 (hex 3 0x050062) ∷ [])) ∷ zone_with 8 (file 1024 (piece 0 (hex 3 0x04002e) ∷ piece 16 (hex 4 0x02002e2e) ∷ piece 32 (hex 3 0x070063) ∷ piece 48 (hex 3 0x080064) ∷ [])) ∷ zone_with 13 (file 1024 (piece 0 (hex 3 0x09002e) ∷ piece 16 (hex 4 0x01002e2e) ∷ [])) ∷ []) (1 ∷ 2 ∷ 3 ∷ 4 ∷ 5 ∷ 6 ∷ 7 ∷ 8 ∷ 9 ∷ []) (5 ∷ 6 ∷ 7 ∷ 8 ∷ 9 ∷ 10 ∷ 11 ∷ 12 ∷ 13 ∷ [])) ≡ Err (BadLink 1 1)
unfolding number16 number32 is_zero kind_of super_of super_checks super_in super_at v1_inode v2_inode inode_of inode_at inode_place bit with_bit parts_of number_in follow pointer_by inside follow_at zone_at block_at content_at entry_of entry_at find_entry entries_at is_dots zone_number block content entry first_named lookup reached thing names names_in was_reached with_inode survey_walk owner names_of has_name judge judged survey_of is_indirect
minix_survey_dotdot_wrong_in_version_1_with_short_names = refl

-- .. wrong and then names itself in version 1 with short names
pub minix_survey_dotdot_wrong_and_then_names_itself_in_version_1_with_short_names : survey_found (volume_by (super_with V1Short 16 48 1 1 5) (node 16877 4 96 (5 ∷ 0 ∷ 0 ∷ 0 ∷ 0 ∷ 0 ∷ 0 ∷ 0 ∷ 0 ∷ 0 ∷ []) ∷ node 16877 3 64 (6 ∷ 0 ∷ 0 ∷ 0 ∷ 0 ∷ 0 ∷ 0 ∷ 0 ∷ 0 ∷ 0 ∷ []) ∷ node 33188 1 4 (7 ∷ 0 ∷ 0 ∷ 0 ∷ 0 ∷ 0 ∷ 0 ∷ 0 ∷ 0 ∷ 0 ∷ []) ∷ node 16877 2 64 (8 ∷ 0 ∷ 0 ∷ 0 ∷ 0 ∷ 0 ∷ 0 ∷ 24 ∷ 0 ∷ 0 ∷ []) ∷ node 33188 1 2000 (9 ∷ 10 ∷ 0 ∷ 0 ∷ 0 ∷ 0 ∷ 0 ∷ 0 ∷ 0 ∷ 0 ∷ []) ∷ node 41471 1 3 (11 ∷ 0 ∷ 0 ∷ 0 ∷ 0 ∷ 0 ∷ 0 ∷ 0 ∷ 0 ∷ 0 ∷ []) ∷ node 33188 1 1 (12 ∷ 0 ∷ 0 ∷ 0 ∷ 0 ∷ 0 ∷ 0 ∷ 0 ∷ 0 ∷ 0 ∷ []) ∷ node 33188 1 9216 (13 ∷ 14 ∷ 15 ∷ 16 ∷ 17 ∷ 18 ∷ 19 ∷ 22 ∷ 0 ∷ 0 ∷ []) ∷ node 16877 2 32 (23 ∷ 0 ∷ 0 ∷ 0 ∷ 0 ∷ 0 ∷ 0 ∷ 0 ∷ 0 ∷ 0 ∷ []) ∷ []) (zone_with 5 (file 1024 (piece 0 (hex 3 0x01002e) ∷ piece 16 (hex 4 0x01002e2e) ∷ piece 32 (hex 3 0x020070) ∷ piece 48 (hex 3 0x030061) ∷ piece 64 (hex 3 0x06006c) ∷ piece 80 (hex 3 0x090072) ∷ [])) ∷ zone_with 6 (file 1024 (piece 0 (hex 3 0x02002e) ∷ piece 16 (hex 4 0x03002e2e) ∷ piece 32 (hex 3 0x040071) ∷ piece 48 (hex 3 0x050062) ∷ [])) ∷ zone_with 8 (file 1024 (piece 0 (hex 3 0x04002e) ∷ piece 16 (hex 4 0x02002e2e) ∷ piece 32 (hex 3 0x070063) ∷ piece 48 (hex 5 0x0800626967) ∷ [])) ∷ zone_with 22 (file 1024 (piece 0 (hex 3 0x140015) ∷ [])) ∷ zone_with 23 (file 1024 (piece 0 (hex 3 0x09002e) ∷ piece 16 (hex 4 0x01002e2e) ∷ [])) ∷ zone_with 24 (file 1024 (piece 0 (hex 1 0x18) ∷ [])) ∷ []) (1 ∷ 2 ∷ 3 ∷ 4 ∷ 5 ∷ 6 ∷ 7 ∷ 8 ∷ 9 ∷ []) (5 ∷ 6 ∷ 7 ∷ 8 ∷ 9 ∷ 10 ∷ 11 ∷ 12 ∷ 13 ∷ 14 ∷ 15 ∷ 16 ∷ 17 ∷ 18 ∷ 19 ∷ 20 ∷ 21 ∷ 22 ∷ 23 ∷ 24 ∷ [])) ≡ Err (BadLink 2 1)
unfolding number16 number32 is_zero kind_of super_of super_checks super_in super_at v1_inode v2_inode inode_of inode_at inode_place bit with_bit parts_of number_in follow pointer_by inside follow_at zone_at block_at content_at entry_of entry_at find_entry entries_at is_dots zone_number block content entry first_named lookup reached thing names names_in was_reached with_inode survey_walk owner names_of has_name judge judged survey_of is_indirect
minix_survey_dotdot_wrong_and_then_names_itself_in_version_1_with_short_names = refl

-- . missing and then zone outside in version 1 with short names
pub minix_survey_dot_missing_and_then_zone_outside_in_version_1_with_short_names : survey_found (volume_by (super_with V1Short 16 48 1 1 5) (node 16877 4 96 (5 ∷ 0 ∷ 0 ∷ 0 ∷ 4 ∷ 0 ∷ 0 ∷ 0 ∷ 0 ∷ 0 ∷ []) ∷ node 16877 3 64 (6 ∷ 0 ∷ 0 ∷ 0 ∷ 0 ∷ 0 ∷ 0 ∷ 0 ∷ 0 ∷ 0 ∷ []) ∷ node 33188 1 4 (7 ∷ 0 ∷ 0 ∷ 0 ∷ 0 ∷ 0 ∷ 0 ∷ 0 ∷ 0 ∷ 0 ∷ []) ∷ node 16877 2 64 (8 ∷ 0 ∷ 0 ∷ 0 ∷ 0 ∷ 0 ∷ 0 ∷ 0 ∷ 0 ∷ 0 ∷ []) ∷ node 33188 1 2000 (9 ∷ 10 ∷ 0 ∷ 0 ∷ 0 ∷ 0 ∷ 0 ∷ 0 ∷ 0 ∷ 0 ∷ []) ∷ node 41471 1 3 (11 ∷ 0 ∷ 0 ∷ 0 ∷ 0 ∷ 0 ∷ 0 ∷ 0 ∷ 0 ∷ 0 ∷ []) ∷ node 33188 1 1 (12 ∷ 0 ∷ 0 ∷ 0 ∷ 0 ∷ 0 ∷ 0 ∷ 0 ∷ 0 ∷ 0 ∷ []) ∷ node 33188 1 9216 (13 ∷ 14 ∷ 15 ∷ 16 ∷ 17 ∷ 18 ∷ 19 ∷ 22 ∷ 0 ∷ 0 ∷ []) ∷ node 16877 2 32 (23 ∷ 0 ∷ 0 ∷ 0 ∷ 0 ∷ 0 ∷ 0 ∷ 0 ∷ 0 ∷ 0 ∷ []) ∷ []) (zone_with 5 (file 1024 (piece 0 (hex 3 0x01002e) ∷ piece 16 (hex 4 0x01002e2e) ∷ piece 32 (hex 3 0x020070) ∷ piece 48 (hex 3 0x030061) ∷ piece 64 (hex 3 0x06006c) ∷ piece 80 (hex 3 0x090072) ∷ [])) ∷ zone_with 6 (file 1024 (piece 2 (codes ".") ∷ piece 16 (hex 4 0x01002e2e) ∷ piece 32 (hex 3 0x040071) ∷ piece 48 (hex 3 0x050062) ∷ [])) ∷ zone_with 8 (file 1024 (piece 0 (hex 3 0x04002e) ∷ piece 16 (hex 4 0x02002e2e) ∷ piece 32 (hex 3 0x070063) ∷ piece 48 (hex 5 0x0800626967) ∷ [])) ∷ zone_with 22 (file 1024 (piece 0 (hex 3 0x140015) ∷ [])) ∷ zone_with 23 (file 1024 (piece 0 (hex 3 0x09002e) ∷ piece 16 (hex 4 0x01002e2e) ∷ [])) ∷ []) (1 ∷ 2 ∷ 3 ∷ 4 ∷ 5 ∷ 6 ∷ 7 ∷ 8 ∷ 9 ∷ []) (5 ∷ 6 ∷ 7 ∷ 8 ∷ 9 ∷ 10 ∷ 11 ∷ 12 ∷ 13 ∷ 14 ∷ 15 ∷ 16 ∷ 17 ∷ 18 ∷ 19 ∷ 20 ∷ 21 ∷ 22 ∷ 23 ∷ [])) ≡ Err (Tree (Zone (ZoneOutside 4)))
unfolding number16 number32 is_zero kind_of super_of super_checks super_in super_at v1_inode v2_inode inode_of inode_at inode_place bit with_bit parts_of number_in follow pointer_by inside follow_at zone_at block_at content_at entry_of entry_at find_entry entries_at is_dots zone_number block content entry first_named lookup reached thing names names_in was_reached with_inode survey_walk owner names_of has_name judge judged survey_of is_indirect
minix_survey_dot_missing_and_then_zone_outside_in_version_1_with_short_names = refl

-- .. missing in version 1 with short names
pub minix_survey_dotdot_missing_in_version_1_with_short_names : survey_found (volume_by (super_with V1Short 16 48 1 1 5) (node 16877 4 96 (5 ∷ 0 ∷ 0 ∷ 0 ∷ 0 ∷ 0 ∷ 0 ∷ 0 ∷ 0 ∷ 0 ∷ []) ∷ node 16877 3 64 (6 ∷ 0 ∷ 0 ∷ 0 ∷ 0 ∷ 0 ∷ 0 ∷ 0 ∷ 0 ∷ 0 ∷ []) ∷ node 33188 1 4 (7 ∷ 0 ∷ 0 ∷ 0 ∷ 0 ∷ 0 ∷ 0 ∷ 0 ∷ 0 ∷ 0 ∷ []) ∷ node 16877 2 64 (8 ∷ 0 ∷ 0 ∷ 0 ∷ 0 ∷ 0 ∷ 0 ∷ 0 ∷ 0 ∷ 0 ∷ []) ∷ node 33188 1 2000 (9 ∷ 10 ∷ 0 ∷ 0 ∷ 0 ∷ 0 ∷ 0 ∷ 0 ∷ 0 ∷ 0 ∷ []) ∷ node 41471 1 3 (11 ∷ 0 ∷ 0 ∷ 0 ∷ 0 ∷ 0 ∷ 0 ∷ 0 ∷ 0 ∷ 0 ∷ []) ∷ node 33188 1 1 (12 ∷ 0 ∷ 0 ∷ 0 ∷ 0 ∷ 0 ∷ 0 ∷ 0 ∷ 0 ∷ 0 ∷ []) ∷ node 33188 1 0 (0 ∷ 0 ∷ 0 ∷ 0 ∷ 0 ∷ 0 ∷ 0 ∷ 0 ∷ 0 ∷ 0 ∷ []) ∷ node 16877 2 32 (13 ∷ 0 ∷ 0 ∷ 0 ∷ 0 ∷ 0 ∷ 0 ∷ 0 ∷ 0 ∷ 0 ∷ []) ∷ []) (zone_with 5 (file 1024 (piece 0 (hex 3 0x01002e) ∷ piece 18 (codes "..") ∷ piece 32 (hex 3 0x020070) ∷ piece 48 (hex 3 0x030061) ∷ piece 64 (hex 3 0x06006c) ∷ piece 80 (hex 3 0x090072) ∷ [])) ∷ zone_with 6 (file 1024 (piece 0 (hex 3 0x02002e) ∷ piece 16 (hex 4 0x01002e2e) ∷ piece 32 (hex 3 0x040071) ∷ piece 48 (hex 3 0x050062) ∷ [])) ∷ zone_with 8 (file 1024 (piece 0 (hex 3 0x04002e) ∷ piece 16 (hex 4 0x02002e2e) ∷ piece 32 (hex 3 0x070063) ∷ piece 48 (hex 3 0x080064) ∷ [])) ∷ zone_with 13 (file 1024 (piece 0 (hex 3 0x09002e) ∷ piece 16 (hex 4 0x01002e2e) ∷ [])) ∷ []) (1 ∷ 2 ∷ 3 ∷ 4 ∷ 5 ∷ 6 ∷ 7 ∷ 8 ∷ 9 ∷ []) (5 ∷ 6 ∷ 7 ∷ 8 ∷ 9 ∷ 10 ∷ 11 ∷ 12 ∷ 13 ∷ [])) ≡ Err (BadLink 1 6)
unfolding number16 number32 is_zero kind_of super_of super_checks super_in super_at v1_inode v2_inode inode_of inode_at inode_place bit with_bit parts_of number_in follow pointer_by inside follow_at zone_at block_at content_at entry_of entry_at find_entry entries_at is_dots zone_number block content entry first_named lookup reached thing names names_in was_reached with_inode survey_walk owner names_of has_name judge judged survey_of is_indirect
minix_survey_dotdot_missing_in_version_1_with_short_names = refl

-- . renamed and then bits without a use in version 1 with short names
pub minix_survey_dot_renamed_and_then_bits_without_a_use_in_version_1_with_short_names : survey_found (volume_by (super_with V1Short 16 48 1 1 5) (node 16877 4 96 (5 ∷ 0 ∷ 0 ∷ 0 ∷ 0 ∷ 0 ∷ 0 ∷ 0 ∷ 0 ∷ 0 ∷ []) ∷ node 16877 3 64 (6 ∷ 0 ∷ 0 ∷ 0 ∷ 0 ∷ 0 ∷ 0 ∷ 0 ∷ 0 ∷ 0 ∷ []) ∷ node 33188 1 4 (7 ∷ 0 ∷ 0 ∷ 0 ∷ 0 ∷ 0 ∷ 0 ∷ 0 ∷ 0 ∷ 0 ∷ []) ∷ node 16877 2 64 (8 ∷ 0 ∷ 0 ∷ 0 ∷ 0 ∷ 0 ∷ 0 ∷ 0 ∷ 0 ∷ 0 ∷ []) ∷ node 33188 1 2000 (9 ∷ 10 ∷ 0 ∷ 0 ∷ 0 ∷ 0 ∷ 0 ∷ 0 ∷ 0 ∷ 0 ∷ []) ∷ node 41471 1 3 (11 ∷ 0 ∷ 0 ∷ 0 ∷ 0 ∷ 0 ∷ 0 ∷ 0 ∷ 0 ∷ 0 ∷ []) ∷ node 33188 1 1 (12 ∷ 0 ∷ 0 ∷ 0 ∷ 0 ∷ 0 ∷ 0 ∷ 0 ∷ 0 ∷ 0 ∷ []) ∷ node 33188 1 9216 (13 ∷ 14 ∷ 15 ∷ 16 ∷ 17 ∷ 18 ∷ 19 ∷ 22 ∷ 0 ∷ 0 ∷ []) ∷ node 16877 2 32 (23 ∷ 0 ∷ 0 ∷ 0 ∷ 0 ∷ 0 ∷ 0 ∷ 0 ∷ 0 ∷ 0 ∷ []) ∷ []) (zone_with 5 (file 1024 (piece 0 (hex 5 0x0300646f74) ∷ piece 16 (hex 4 0x01002e2e) ∷ piece 32 (hex 3 0x020070) ∷ piece 48 (hex 3 0x030061) ∷ piece 64 (hex 3 0x06006c) ∷ piece 80 (hex 3 0x090072) ∷ [])) ∷ zone_with 6 (file 1024 (piece 0 (hex 3 0x02002e) ∷ piece 16 (hex 4 0x01002e2e) ∷ piece 32 (hex 3 0x040071) ∷ piece 48 (hex 3 0x050062) ∷ [])) ∷ zone_with 8 (file 1024 (piece 0 (hex 3 0x04002e) ∷ piece 16 (hex 4 0x02002e2e) ∷ piece 32 (hex 3 0x070063) ∷ piece 48 (hex 5 0x0800626967) ∷ [])) ∷ zone_with 22 (file 1024 (piece 0 (hex 3 0x140015) ∷ [])) ∷ zone_with 23 (file 1024 (piece 0 (hex 3 0x09002e) ∷ piece 16 (hex 4 0x01002e2e) ∷ [])) ∷ []) (1 ∷ 2 ∷ 3 ∷ 4 ∷ 5 ∷ 6 ∷ 7 ∷ 8 ∷ 9 ∷ 16 ∷ []) (5 ∷ 6 ∷ 7 ∷ 8 ∷ 9 ∷ 10 ∷ 11 ∷ 12 ∷ 13 ∷ 14 ∷ 15 ∷ 16 ∷ 17 ∷ 18 ∷ 19 ∷ 20 ∷ 21 ∷ 22 ∷ 23 ∷ 47 ∷ [])) ≡ Err (FewLinks 3)
unfolding number16 number32 is_zero kind_of super_of super_checks super_in super_at v1_inode v2_inode inode_of inode_at inode_place bit with_bit parts_of number_in follow pointer_by inside follow_at zone_at block_at content_at entry_of entry_at find_entry entries_at is_dots zone_number block content entry first_named lookup reached thing names names_in was_reached with_inode survey_walk owner names_of has_name judge judged survey_of is_indirect
minix_survey_dot_renamed_and_then_bits_without_a_use_in_version_1_with_short_names = refl

-- a second . in version 1 with short names
pub minix_survey_a_second_dot_in_version_1_with_short_names : survey_found (volume_by (super_with V1Short 16 48 1 1 5) (node 16877 4 112 (5 ∷ 0 ∷ 0 ∷ 0 ∷ 0 ∷ 0 ∷ 0 ∷ 0 ∷ 0 ∷ 0 ∷ []) ∷ node 16877 3 64 (6 ∷ 0 ∷ 0 ∷ 0 ∷ 0 ∷ 0 ∷ 0 ∷ 0 ∷ 0 ∷ 0 ∷ []) ∷ node 33188 1 4 (7 ∷ 0 ∷ 0 ∷ 0 ∷ 0 ∷ 0 ∷ 0 ∷ 0 ∷ 0 ∷ 0 ∷ []) ∷ node 16877 2 64 (8 ∷ 0 ∷ 0 ∷ 0 ∷ 0 ∷ 0 ∷ 0 ∷ 0 ∷ 0 ∷ 0 ∷ []) ∷ node 33188 1 2000 (9 ∷ 10 ∷ 0 ∷ 0 ∷ 0 ∷ 0 ∷ 0 ∷ 0 ∷ 0 ∷ 0 ∷ []) ∷ node 41471 1 3 (11 ∷ 0 ∷ 0 ∷ 0 ∷ 0 ∷ 0 ∷ 0 ∷ 0 ∷ 0 ∷ 0 ∷ []) ∷ node 33188 1 1 (12 ∷ 0 ∷ 0 ∷ 0 ∷ 0 ∷ 0 ∷ 0 ∷ 0 ∷ 0 ∷ 0 ∷ []) ∷ node 33188 1 0 (0 ∷ 0 ∷ 0 ∷ 0 ∷ 0 ∷ 0 ∷ 0 ∷ 0 ∷ 0 ∷ 0 ∷ []) ∷ node 16877 2 32 (13 ∷ 0 ∷ 0 ∷ 0 ∷ 0 ∷ 0 ∷ 0 ∷ 0 ∷ 0 ∷ 0 ∷ []) ∷ []) (zone_with 5 (file 1024 (piece 0 (hex 3 0x01002e) ∷ piece 16 (hex 4 0x01002e2e) ∷ piece 32 (hex 3 0x020070) ∷ piece 48 (hex 3 0x030061) ∷ piece 64 (hex 3 0x06006c) ∷ piece 80 (hex 3 0x090072) ∷ piece 96 (hex 3 0x01002e) ∷ [])) ∷ zone_with 6 (file 1024 (piece 0 (hex 3 0x02002e) ∷ piece 16 (hex 4 0x01002e2e) ∷ piece 32 (hex 3 0x040071) ∷ piece 48 (hex 3 0x050062) ∷ [])) ∷ zone_with 8 (file 1024 (piece 0 (hex 3 0x04002e) ∷ piece 16 (hex 4 0x02002e2e) ∷ piece 32 (hex 3 0x070063) ∷ piece 48 (hex 3 0x080064) ∷ [])) ∷ zone_with 13 (file 1024 (piece 0 (hex 3 0x09002e) ∷ piece 16 (hex 4 0x01002e2e) ∷ [])) ∷ []) (1 ∷ 2 ∷ 3 ∷ 4 ∷ 5 ∷ 6 ∷ 7 ∷ 8 ∷ 9 ∷ []) (5 ∷ 6 ∷ 7 ∷ 8 ∷ 9 ∷ 10 ∷ 11 ∷ 12 ∷ 13 ∷ [])) ≡ Err (BadLink 1 6)
unfolding number16 number32 is_zero kind_of super_of super_checks super_in super_at v1_inode v2_inode inode_of inode_at inode_place bit with_bit parts_of number_in follow pointer_by inside follow_at zone_at block_at content_at entry_of entry_at find_entry entries_at is_dots zone_number block content entry first_named lookup reached thing names names_in was_reached with_inode survey_walk owner names_of has_name judge judged survey_of is_indirect
minix_survey_a_second_dot_in_version_1_with_short_names = refl

-- a second .. in version 1 with short names
pub minix_survey_a_second_dotdot_in_version_1_with_short_names : survey_found (volume_by (super_with V1Short 16 48 1 1 5) (node 16877 4 96 (5 ∷ 0 ∷ 0 ∷ 0 ∷ 0 ∷ 0 ∷ 0 ∷ 0 ∷ 0 ∷ 0 ∷ []) ∷ node 16877 3 80 (6 ∷ 0 ∷ 0 ∷ 0 ∷ 0 ∷ 0 ∷ 0 ∷ 0 ∷ 0 ∷ 0 ∷ []) ∷ node 33188 1 4 (7 ∷ 0 ∷ 0 ∷ 0 ∷ 0 ∷ 0 ∷ 0 ∷ 0 ∷ 0 ∷ 0 ∷ []) ∷ node 16877 2 64 (8 ∷ 0 ∷ 0 ∷ 0 ∷ 0 ∷ 0 ∷ 0 ∷ 0 ∷ 0 ∷ 0 ∷ []) ∷ node 33188 1 2000 (9 ∷ 10 ∷ 0 ∷ 0 ∷ 0 ∷ 0 ∷ 0 ∷ 0 ∷ 0 ∷ 0 ∷ []) ∷ node 41471 1 3 (11 ∷ 0 ∷ 0 ∷ 0 ∷ 0 ∷ 0 ∷ 0 ∷ 0 ∷ 0 ∷ 0 ∷ []) ∷ node 33188 1 1 (12 ∷ 0 ∷ 0 ∷ 0 ∷ 0 ∷ 0 ∷ 0 ∷ 0 ∷ 0 ∷ 0 ∷ []) ∷ node 33188 1 0 (0 ∷ 0 ∷ 0 ∷ 0 ∷ 0 ∷ 0 ∷ 0 ∷ 0 ∷ 0 ∷ 0 ∷ []) ∷ node 16877 2 32 (13 ∷ 0 ∷ 0 ∷ 0 ∷ 0 ∷ 0 ∷ 0 ∷ 0 ∷ 0 ∷ 0 ∷ []) ∷ []) (zone_with 5 (file 1024 (piece 0 (hex 3 0x01002e) ∷ piece 16 (hex 4 0x01002e2e) ∷ piece 32 (hex 3 0x020070) ∷ piece 48 (hex 3 0x030061) ∷ piece 64 (hex 3 0x06006c) ∷ piece 80 (hex 3 0x090072) ∷ [])) ∷ zone_with 6 (file 1024 (piece 0 (hex 3 0x02002e) ∷ piece 16 (hex 4 0x01002e2e) ∷ piece 32 (hex 3 0x040071) ∷ piece 48 (hex 3 0x050062) ∷ piece 64 (hex 4 0x02002e2e) ∷ [])) ∷ zone_with 8 (file 1024 (piece 0 (hex 3 0x04002e) ∷ piece 16 (hex 4 0x02002e2e) ∷ piece 32 (hex 3 0x070063) ∷ piece 48 (hex 3 0x080064) ∷ [])) ∷ zone_with 13 (file 1024 (piece 0 (hex 3 0x09002e) ∷ piece 16 (hex 4 0x01002e2e) ∷ [])) ∷ []) (1 ∷ 2 ∷ 3 ∷ 4 ∷ 5 ∷ 6 ∷ 7 ∷ 8 ∷ 9 ∷ []) (5 ∷ 6 ∷ 7 ∷ 8 ∷ 9 ∷ 10 ∷ 11 ∷ 12 ∷ 13 ∷ [])) ≡ Err (BadLink 2 4)
unfolding number16 number32 is_zero kind_of super_of super_checks super_in super_at v1_inode v2_inode inode_of inode_at inode_place bit with_bit parts_of number_in follow pointer_by inside follow_at zone_at block_at content_at entry_of entry_at find_entry entries_at is_dots zone_number block content entry first_named lookup reached thing names names_in was_reached with_inode survey_walk owner names_of has_name judge judged survey_of is_indirect
minix_survey_a_second_dotdot_in_version_1_with_short_names = refl

-- . and .. exchanged in version 1 with short names
pub minix_survey_dot_and_dotdot_exchanged_in_version_1_with_short_names : survey_found (volume_by (super_with V1Short 16 48 1 1 5) (node 16877 4 96 (5 ∷ 0 ∷ 0 ∷ 0 ∷ 0 ∷ 0 ∷ 0 ∷ 0 ∷ 0 ∷ 0 ∷ []) ∷ node 16877 3 64 (6 ∷ 0 ∷ 0 ∷ 0 ∷ 0 ∷ 0 ∷ 0 ∷ 0 ∷ 0 ∷ 0 ∷ []) ∷ node 33188 1 4 (7 ∷ 0 ∷ 0 ∷ 0 ∷ 0 ∷ 0 ∷ 0 ∷ 0 ∷ 0 ∷ 0 ∷ []) ∷ node 16877 2 64 (8 ∷ 0 ∷ 0 ∷ 0 ∷ 0 ∷ 0 ∷ 0 ∷ 0 ∷ 0 ∷ 0 ∷ []) ∷ node 33188 1 2000 (9 ∷ 10 ∷ 0 ∷ 0 ∷ 0 ∷ 0 ∷ 0 ∷ 0 ∷ 0 ∷ 0 ∷ []) ∷ node 41471 1 3 (11 ∷ 0 ∷ 0 ∷ 0 ∷ 0 ∷ 0 ∷ 0 ∷ 0 ∷ 0 ∷ 0 ∷ []) ∷ node 33188 1 1 (12 ∷ 0 ∷ 0 ∷ 0 ∷ 0 ∷ 0 ∷ 0 ∷ 0 ∷ 0 ∷ 0 ∷ []) ∷ node 33188 1 0 (0 ∷ 0 ∷ 0 ∷ 0 ∷ 0 ∷ 0 ∷ 0 ∷ 0 ∷ 0 ∷ 0 ∷ []) ∷ node 16877 2 32 (13 ∷ 0 ∷ 0 ∷ 0 ∷ 0 ∷ 0 ∷ 0 ∷ 0 ∷ 0 ∷ 0 ∷ []) ∷ []) (zone_with 5 (file 1024 (piece 0 (hex 4 0x01002e2e) ∷ piece 16 (hex 3 0x01002e) ∷ piece 32 (hex 3 0x020070) ∷ piece 48 (hex 3 0x030061) ∷ piece 64 (hex 3 0x06006c) ∷ piece 80 (hex 3 0x090072) ∷ [])) ∷ zone_with 6 (file 1024 (piece 0 (hex 3 0x02002e) ∷ piece 16 (hex 4 0x01002e2e) ∷ piece 32 (hex 3 0x040071) ∷ piece 48 (hex 3 0x050062) ∷ [])) ∷ zone_with 8 (file 1024 (piece 0 (hex 3 0x04002e) ∷ piece 16 (hex 4 0x02002e2e) ∷ piece 32 (hex 3 0x070063) ∷ piece 48 (hex 3 0x080064) ∷ [])) ∷ zone_with 13 (file 1024 (piece 0 (hex 3 0x09002e) ∷ piece 16 (hex 4 0x01002e2e) ∷ [])) ∷ []) (1 ∷ 2 ∷ 3 ∷ 4 ∷ 5 ∷ 6 ∷ 7 ∷ 8 ∷ 9 ∷ []) (5 ∷ 6 ∷ 7 ∷ 8 ∷ 9 ∷ 10 ∷ 11 ∷ 12 ∷ 13 ∷ [])) ≡ Ok (found (owned 5 1 false ∷ owned 6 2 false ∷ owned 7 3 false ∷ owned 8 4 false ∷ owned 9 5 false ∷ owned 10 5 false ∷ owned 11 6 false ∷ owned 12 7 false ∷ owned 13 9 false ∷ []) (0 ∷ 1 ∷ 1 ∷ 1 ∷ 1 ∷ 1 ∷ 1 ∷ 1 ∷ 1 ∷ 0 ∷ 0 ∷ 0 ∷ 0 ∷ 0 ∷ 0 ∷ 0 ∷ []))
unfolding number16 number32 is_zero kind_of super_of super_checks super_in super_at v1_inode v2_inode inode_of inode_at inode_place bit with_bit parts_of number_in follow pointer_by inside follow_at zone_at block_at content_at entry_of entry_at find_entry entries_at is_dots zone_number block content entry first_named lookup reached thing names names_in was_reached with_inode survey_walk owner names_of has_name judge judged survey_of is_indirect
minix_survey_dot_and_dotdot_exchanged_in_version_1_with_short_names = refl

-- links fewer in version 1 with short names
pub minix_survey_links_fewer_in_version_1_with_short_names : survey_found (volume_by (super_with V1Short 16 48 1 1 5) (node 16877 4 96 (5 ∷ 0 ∷ 0 ∷ 0 ∷ 0 ∷ 0 ∷ 0 ∷ 0 ∷ 0 ∷ 0 ∷ []) ∷ node 16877 3 64 (6 ∷ 0 ∷ 0 ∷ 0 ∷ 0 ∷ 0 ∷ 0 ∷ 0 ∷ 0 ∷ 0 ∷ []) ∷ node 33188 1 4 (7 ∷ 0 ∷ 0 ∷ 0 ∷ 0 ∷ 0 ∷ 0 ∷ 0 ∷ 0 ∷ 0 ∷ []) ∷ node 16877 2 64 (8 ∷ 0 ∷ 0 ∷ 0 ∷ 0 ∷ 0 ∷ 0 ∷ 0 ∷ 0 ∷ 0 ∷ []) ∷ node 33188 1 2000 (9 ∷ 10 ∷ 0 ∷ 0 ∷ 0 ∷ 0 ∷ 0 ∷ 0 ∷ 0 ∷ 0 ∷ []) ∷ node 41471 1 3 (11 ∷ 0 ∷ 0 ∷ 0 ∷ 0 ∷ 0 ∷ 0 ∷ 0 ∷ 0 ∷ 0 ∷ []) ∷ node 33188 0 1 (12 ∷ 0 ∷ 0 ∷ 0 ∷ 0 ∷ 0 ∷ 0 ∷ 0 ∷ 0 ∷ 0 ∷ []) ∷ node 33188 1 0 (0 ∷ 0 ∷ 0 ∷ 0 ∷ 0 ∷ 0 ∷ 0 ∷ 0 ∷ 0 ∷ 0 ∷ []) ∷ node 16877 2 32 (13 ∷ 0 ∷ 0 ∷ 0 ∷ 0 ∷ 0 ∷ 0 ∷ 0 ∷ 0 ∷ 0 ∷ []) ∷ []) (zone_with 5 (file 1024 (piece 0 (hex 3 0x01002e) ∷ piece 16 (hex 4 0x01002e2e) ∷ piece 32 (hex 3 0x020070) ∷ piece 48 (hex 3 0x030061) ∷ piece 64 (hex 3 0x06006c) ∷ piece 80 (hex 3 0x090072) ∷ [])) ∷ zone_with 6 (file 1024 (piece 0 (hex 3 0x02002e) ∷ piece 16 (hex 4 0x01002e2e) ∷ piece 32 (hex 3 0x040071) ∷ piece 48 (hex 3 0x050062) ∷ [])) ∷ zone_with 8 (file 1024 (piece 0 (hex 3 0x04002e) ∷ piece 16 (hex 4 0x02002e2e) ∷ piece 32 (hex 3 0x070063) ∷ piece 48 (hex 3 0x080064) ∷ [])) ∷ zone_with 13 (file 1024 (piece 0 (hex 3 0x09002e) ∷ piece 16 (hex 4 0x01002e2e) ∷ [])) ∷ []) (1 ∷ 2 ∷ 3 ∷ 4 ∷ 5 ∷ 6 ∷ 7 ∷ 8 ∷ 9 ∷ []) (5 ∷ 6 ∷ 7 ∷ 8 ∷ 9 ∷ 10 ∷ 11 ∷ 12 ∷ 13 ∷ [])) ≡ Err (FewLinks 7)
unfolding number16 number32 is_zero kind_of super_of super_checks super_in super_at v1_inode v2_inode inode_of inode_at inode_place bit with_bit parts_of number_in follow pointer_by inside follow_at zone_at block_at content_at entry_of entry_at find_entry entries_at is_dots zone_number block content entry first_named lookup reached thing names names_in was_reached with_inode survey_walk owner names_of has_name judge judged survey_of is_indirect
minix_survey_links_fewer_in_version_1_with_short_names = refl

-- zone of none marked and then entry out of range in version 1 with short names
pub minix_survey_zone_of_none_marked_and_then_entry_out_of_range_in_version_1_with_short_names : survey_found (volume_by (super_with V1Short 16 48 1 1 5) (node 16877 4 96 (5 ∷ 0 ∷ 0 ∷ 0 ∷ 0 ∷ 0 ∷ 0 ∷ 0 ∷ 0 ∷ 0 ∷ []) ∷ node 16877 3 64 (6 ∷ 0 ∷ 0 ∷ 0 ∷ 0 ∷ 0 ∷ 0 ∷ 0 ∷ 0 ∷ 0 ∷ []) ∷ node 33188 1 4 (7 ∷ 0 ∷ 0 ∷ 0 ∷ 0 ∷ 0 ∷ 0 ∷ 0 ∷ 0 ∷ 0 ∷ []) ∷ node 16877 2 64 (8 ∷ 0 ∷ 0 ∷ 0 ∷ 0 ∷ 0 ∷ 0 ∷ 0 ∷ 0 ∷ 0 ∷ []) ∷ node 33188 1 2000 (9 ∷ 10 ∷ 0 ∷ 0 ∷ 0 ∷ 0 ∷ 0 ∷ 0 ∷ 0 ∷ 0 ∷ []) ∷ node 41471 1 3 (11 ∷ 0 ∷ 0 ∷ 0 ∷ 0 ∷ 0 ∷ 0 ∷ 0 ∷ 0 ∷ 0 ∷ []) ∷ node 33188 1 1 (12 ∷ 0 ∷ 0 ∷ 0 ∷ 0 ∷ 0 ∷ 0 ∷ 0 ∷ 0 ∷ 0 ∷ []) ∷ node 33188 1 9216 (13 ∷ 14 ∷ 15 ∷ 16 ∷ 17 ∷ 18 ∷ 19 ∷ 22 ∷ 0 ∷ 0 ∷ []) ∷ node 16877 2 32 (23 ∷ 0 ∷ 25 ∷ 0 ∷ 0 ∷ 0 ∷ 0 ∷ 0 ∷ 0 ∷ 0 ∷ []) ∷ []) (zone_with 5 (file 1024 (piece 0 (hex 3 0x01002e) ∷ piece 16 (hex 4 0x01002e2e) ∷ piece 32 (hex 3 0x020070) ∷ piece 48 (hex 3 0x030061) ∷ piece 64 (hex 3 0x06006c) ∷ piece 80 (hex 3 0x090072) ∷ [])) ∷ zone_with 6 (file 1024 (piece 0 (hex 3 0x02002e) ∷ piece 16 (hex 4 0x01002e2e) ∷ piece 32 (hex 3 0x040071) ∷ piece 48 (hex 3 0x050062) ∷ [])) ∷ zone_with 8 (file 1024 (piece 0 (hex 3 0x04002e) ∷ piece 16 (hex 4 0x02002e2e) ∷ piece 32 (hex 3 0x070063) ∷ piece 48 (hex 5 0x0800626967) ∷ [])) ∷ zone_with 22 (file 1024 (piece 0 (hex 3 0x140015) ∷ [])) ∷ zone_with 23 (file 1024 (piece 0 (hex 3 0x09002e) ∷ piece 16 (hex 5 0x1200666172) ∷ [])) ∷ []) (1 ∷ 2 ∷ 3 ∷ 4 ∷ 5 ∷ 6 ∷ 7 ∷ 8 ∷ 9 ∷ []) (5 ∷ 6 ∷ 7 ∷ 8 ∷ 9 ∷ 10 ∷ 11 ∷ 12 ∷ 13 ∷ 14 ∷ 15 ∷ 16 ∷ 17 ∷ 18 ∷ 19 ∷ 20 ∷ 21 ∷ 22 ∷ 23 ∷ 25 ∷ [])) ≡ Err (BadLink 9 1)
unfolding number16 number32 is_zero kind_of super_of super_checks super_in super_at v1_inode v2_inode inode_of inode_at inode_place bit with_bit parts_of number_in follow pointer_by inside follow_at zone_at block_at content_at entry_of entry_at find_entry entries_at is_dots zone_number block content entry first_named lookup reached thing names names_in was_reached with_inode survey_walk owner names_of has_name judge judged survey_of is_indirect
minix_survey_zone_of_none_marked_and_then_entry_out_of_range_in_version_1_with_short_names = refl

-- indirect in version 1 with short names
pub minix_survey_indirect_in_version_1_with_short_names : survey_found (volume_by (super_with V1Short 16 48 1 1 5) (node 16877 4 96 (5 ∷ 0 ∷ 0 ∷ 0 ∷ 0 ∷ 0 ∷ 0 ∷ 0 ∷ 0 ∷ 0 ∷ []) ∷ node 16877 3 64 (6 ∷ 0 ∷ 0 ∷ 0 ∷ 0 ∷ 0 ∷ 0 ∷ 0 ∷ 0 ∷ 0 ∷ []) ∷ node 33188 1 4 (7 ∷ 0 ∷ 0 ∷ 0 ∷ 0 ∷ 0 ∷ 0 ∷ 0 ∷ 0 ∷ 0 ∷ []) ∷ node 16877 2 64 (8 ∷ 0 ∷ 0 ∷ 0 ∷ 0 ∷ 0 ∷ 0 ∷ 0 ∷ 0 ∷ 0 ∷ []) ∷ node 33188 1 2000 (9 ∷ 10 ∷ 0 ∷ 0 ∷ 0 ∷ 0 ∷ 0 ∷ 0 ∷ 0 ∷ 0 ∷ []) ∷ node 41471 1 3 (11 ∷ 0 ∷ 0 ∷ 0 ∷ 0 ∷ 0 ∷ 0 ∷ 14 ∷ 0 ∷ 0 ∷ []) ∷ node 33188 1 1 (12 ∷ 0 ∷ 0 ∷ 0 ∷ 0 ∷ 0 ∷ 0 ∷ 0 ∷ 0 ∷ 0 ∷ []) ∷ node 33188 1 0 (0 ∷ 0 ∷ 0 ∷ 0 ∷ 0 ∷ 0 ∷ 0 ∷ 0 ∷ 0 ∷ 0 ∷ []) ∷ node 16877 2 32 (13 ∷ 0 ∷ 0 ∷ 0 ∷ 0 ∷ 0 ∷ 0 ∷ 0 ∷ 0 ∷ 0 ∷ []) ∷ []) (zone_with 5 (file 1024 (piece 0 (hex 3 0x01002e) ∷ piece 16 (hex 4 0x01002e2e) ∷ piece 32 (hex 3 0x020070) ∷ piece 48 (hex 3 0x030061) ∷ piece 64 (hex 3 0x06006c) ∷ piece 80 (hex 3 0x090072) ∷ [])) ∷ zone_with 6 (file 1024 (piece 0 (hex 3 0x02002e) ∷ piece 16 (hex 4 0x01002e2e) ∷ piece 32 (hex 3 0x040071) ∷ piece 48 (hex 3 0x050062) ∷ [])) ∷ zone_with 8 (file 1024 (piece 0 (hex 3 0x04002e) ∷ piece 16 (hex 4 0x02002e2e) ∷ piece 32 (hex 3 0x070063) ∷ piece 48 (hex 3 0x080064) ∷ [])) ∷ zone_with 13 (file 1024 (piece 0 (hex 3 0x09002e) ∷ piece 16 (hex 4 0x01002e2e) ∷ [])) ∷ zone_with 14 (file 1024 (piece 2 (hex 9 0x0f000000000000002f) ∷ [])) ∷ []) (1 ∷ 2 ∷ 3 ∷ 4 ∷ 5 ∷ 6 ∷ 7 ∷ 8 ∷ 9 ∷ []) (5 ∷ 6 ∷ 7 ∷ 8 ∷ 9 ∷ 10 ∷ 11 ∷ 12 ∷ 13 ∷ 14 ∷ 15 ∷ [])) ≡ Err (Unmarked 47)
unfolding number16 number32 is_zero kind_of super_of super_checks super_in super_at v1_inode v2_inode inode_of inode_at inode_place bit with_bit parts_of number_in follow pointer_by inside follow_at zone_at block_at content_at entry_of entry_at find_entry entries_at is_dots zone_number block content entry first_named lookup reached thing names names_in was_reached with_inode survey_walk owner names_of has_name judge judged survey_of is_indirect
minix_survey_indirect_in_version_1_with_short_names = refl

-- size of a directory in version 1 with short names
pub minix_survey_size_of_a_directory_in_version_1_with_short_names : survey_found (volume_by (super_with V1Short 16 48 1 1 5) (node 16877 4 31 (5 ∷ 0 ∷ 0 ∷ 0 ∷ 0 ∷ 0 ∷ 0 ∷ 0 ∷ 0 ∷ 0 ∷ []) ∷ node 16877 3 64 (6 ∷ 0 ∷ 0 ∷ 0 ∷ 0 ∷ 0 ∷ 0 ∷ 0 ∷ 0 ∷ 0 ∷ []) ∷ node 33188 1 4 (7 ∷ 0 ∷ 0 ∷ 0 ∷ 0 ∷ 0 ∷ 0 ∷ 0 ∷ 0 ∷ 0 ∷ []) ∷ node 16877 2 64 (8 ∷ 0 ∷ 0 ∷ 0 ∷ 0 ∷ 0 ∷ 0 ∷ 0 ∷ 0 ∷ 0 ∷ []) ∷ node 33188 1 2000 (9 ∷ 10 ∷ 0 ∷ 0 ∷ 0 ∷ 0 ∷ 0 ∷ 0 ∷ 0 ∷ 0 ∷ []) ∷ node 41471 1 3 (11 ∷ 0 ∷ 0 ∷ 0 ∷ 0 ∷ 0 ∷ 0 ∷ 0 ∷ 0 ∷ 0 ∷ []) ∷ node 33188 1 1 (12 ∷ 0 ∷ 0 ∷ 0 ∷ 0 ∷ 0 ∷ 0 ∷ 0 ∷ 0 ∷ 0 ∷ []) ∷ node 33188 1 0 (0 ∷ 0 ∷ 0 ∷ 0 ∷ 0 ∷ 0 ∷ 0 ∷ 0 ∷ 0 ∷ 0 ∷ []) ∷ node 16877 2 32 (13 ∷ 0 ∷ 0 ∷ 0 ∷ 0 ∷ 0 ∷ 0 ∷ 0 ∷ 0 ∷ 0 ∷ []) ∷ []) (zone_with 5 (file 1024 (piece 0 (hex 3 0x01002e) ∷ piece 16 (hex 4 0x01002e2e) ∷ piece 32 (hex 3 0x020070) ∷ piece 48 (hex 3 0x030061) ∷ piece 64 (hex 3 0x06006c) ∷ piece 80 (hex 3 0x090072) ∷ [])) ∷ zone_with 6 (file 1024 (piece 0 (hex 3 0x02002e) ∷ piece 16 (hex 4 0x01002e2e) ∷ piece 32 (hex 3 0x040071) ∷ piece 48 (hex 3 0x050062) ∷ [])) ∷ zone_with 8 (file 1024 (piece 0 (hex 3 0x04002e) ∷ piece 16 (hex 4 0x02002e2e) ∷ piece 32 (hex 3 0x070063) ∷ piece 48 (hex 3 0x080064) ∷ [])) ∷ zone_with 13 (file 1024 (piece 0 (hex 3 0x09002e) ∷ piece 16 (hex 4 0x01002e2e) ∷ [])) ∷ []) (1 ∷ 2 ∷ 3 ∷ 4 ∷ 5 ∷ 6 ∷ 7 ∷ 8 ∷ 9 ∷ []) (5 ∷ 6 ∷ 7 ∷ 8 ∷ 9 ∷ 10 ∷ 11 ∷ 12 ∷ 13 ∷ [])) ≡ Err (BadLink 1 1)
unfolding number16 number32 is_zero kind_of super_of super_checks super_in super_at v1_inode v2_inode inode_of inode_at inode_place bit with_bit parts_of number_in follow pointer_by inside follow_at zone_at block_at content_at entry_of entry_at find_entry entries_at is_dots zone_number block content entry first_named lookup reached thing names names_in was_reached with_inode survey_walk owner names_of has_name judge judged survey_of is_indirect
minix_survey_size_of_a_directory_in_version_1_with_short_names = refl

-- a device in version 1 with short names
pub minix_survey_a_device_in_version_1_with_short_names : survey_found (volume_by (super_with V1Short 16 48 1 1 5) (node 16877 4 96 (5 ∷ 0 ∷ 0 ∷ 0 ∷ 0 ∷ 0 ∷ 0 ∷ 0 ∷ 0 ∷ 0 ∷ []) ∷ node 16877 3 64 (6 ∷ 0 ∷ 0 ∷ 0 ∷ 0 ∷ 0 ∷ 0 ∷ 0 ∷ 0 ∷ 0 ∷ []) ∷ node 33188 1 4 (7 ∷ 0 ∷ 0 ∷ 0 ∷ 0 ∷ 0 ∷ 0 ∷ 0 ∷ 0 ∷ 0 ∷ []) ∷ node 16877 2 64 (8 ∷ 0 ∷ 0 ∷ 0 ∷ 0 ∷ 0 ∷ 0 ∷ 0 ∷ 0 ∷ 0 ∷ []) ∷ node 33188 1 2000 (9 ∷ 10 ∷ 0 ∷ 0 ∷ 0 ∷ 0 ∷ 0 ∷ 0 ∷ 0 ∷ 0 ∷ []) ∷ node 41471 1 3 (11 ∷ 0 ∷ 0 ∷ 0 ∷ 0 ∷ 0 ∷ 0 ∷ 0 ∷ 0 ∷ 0 ∷ []) ∷ node 8612 1 1 (3 ∷ 1 ∷ 9 ∷ 9 ∷ 65535 ∷ 0 ∷ 0 ∷ 0 ∷ 0 ∷ 0 ∷ []) ∷ node 33188 1 0 (0 ∷ 0 ∷ 0 ∷ 0 ∷ 0 ∷ 0 ∷ 0 ∷ 0 ∷ 0 ∷ 0 ∷ []) ∷ node 16877 2 32 (13 ∷ 0 ∷ 0 ∷ 0 ∷ 0 ∷ 0 ∷ 0 ∷ 0 ∷ 0 ∷ 0 ∷ []) ∷ []) (zone_with 5 (file 1024 (piece 0 (hex 3 0x01002e) ∷ piece 16 (hex 4 0x01002e2e) ∷ piece 32 (hex 3 0x020070) ∷ piece 48 (hex 3 0x030061) ∷ piece 64 (hex 3 0x06006c) ∷ piece 80 (hex 3 0x090072) ∷ [])) ∷ zone_with 6 (file 1024 (piece 0 (hex 3 0x02002e) ∷ piece 16 (hex 4 0x01002e2e) ∷ piece 32 (hex 3 0x040071) ∷ piece 48 (hex 3 0x050062) ∷ [])) ∷ zone_with 8 (file 1024 (piece 0 (hex 3 0x04002e) ∷ piece 16 (hex 4 0x02002e2e) ∷ piece 32 (hex 3 0x070063) ∷ piece 48 (hex 3 0x080064) ∷ [])) ∷ zone_with 13 (file 1024 (piece 0 (hex 3 0x09002e) ∷ piece 16 (hex 4 0x01002e2e) ∷ [])) ∷ []) (1 ∷ 2 ∷ 3 ∷ 4 ∷ 5 ∷ 6 ∷ 7 ∷ 8 ∷ 9 ∷ []) (5 ∷ 6 ∷ 7 ∷ 8 ∷ 9 ∷ 10 ∷ 11 ∷ 12 ∷ 13 ∷ [])) ≡ Ok (found (owned 5 1 false ∷ owned 6 2 false ∷ owned 7 3 false ∷ owned 8 4 false ∷ owned 9 5 false ∷ owned 10 5 false ∷ owned 11 6 false ∷ owned 13 9 false ∷ []) (0 ∷ 1 ∷ 1 ∷ 1 ∷ 1 ∷ 1 ∷ 1 ∷ 1 ∷ 1 ∷ 0 ∷ 0 ∷ 0 ∷ 0 ∷ 0 ∷ 0 ∷ 0 ∷ []))
unfolding number16 number32 is_zero kind_of super_of super_checks super_in super_at v1_inode v2_inode inode_of inode_at inode_place bit with_bit parts_of number_in follow pointer_by inside follow_at zone_at block_at content_at entry_of entry_at find_entry entries_at is_dots zone_number block content entry first_named lookup reached thing names names_in was_reached with_inode survey_walk owner names_of has_name judge judged survey_of is_indirect
minix_survey_a_device_in_version_1_with_short_names = refl

-- bits without a use in version 1 with short names
pub minix_survey_bits_without_a_use_in_version_1_with_short_names : survey_found (volume_by (super_with V1Short 16 48 1 1 5) (node 16877 4 96 (5 ∷ 0 ∷ 0 ∷ 0 ∷ 0 ∷ 0 ∷ 0 ∷ 0 ∷ 0 ∷ 0 ∷ []) ∷ node 16877 3 64 (6 ∷ 0 ∷ 0 ∷ 0 ∷ 0 ∷ 0 ∷ 0 ∷ 0 ∷ 0 ∷ 0 ∷ []) ∷ node 33188 1 4 (7 ∷ 0 ∷ 0 ∷ 0 ∷ 0 ∷ 0 ∷ 0 ∷ 0 ∷ 0 ∷ 0 ∷ []) ∷ node 16877 2 64 (8 ∷ 0 ∷ 0 ∷ 0 ∷ 0 ∷ 0 ∷ 0 ∷ 0 ∷ 0 ∷ 0 ∷ []) ∷ node 33188 1 2000 (9 ∷ 10 ∷ 0 ∷ 0 ∷ 0 ∷ 0 ∷ 0 ∷ 0 ∷ 0 ∷ 0 ∷ []) ∷ node 41471 1 3 (11 ∷ 0 ∷ 0 ∷ 0 ∷ 0 ∷ 0 ∷ 0 ∷ 0 ∷ 0 ∷ 0 ∷ []) ∷ node 33188 1 1 (12 ∷ 0 ∷ 0 ∷ 0 ∷ 0 ∷ 0 ∷ 0 ∷ 0 ∷ 0 ∷ 0 ∷ []) ∷ node 33188 1 0 (0 ∷ 0 ∷ 0 ∷ 0 ∷ 0 ∷ 0 ∷ 0 ∷ 0 ∷ 0 ∷ 0 ∷ []) ∷ node 16877 2 32 (13 ∷ 0 ∷ 0 ∷ 0 ∷ 0 ∷ 0 ∷ 0 ∷ 0 ∷ 0 ∷ 0 ∷ []) ∷ []) (zone_with 5 (file 1024 (piece 0 (hex 3 0x01002e) ∷ piece 16 (hex 4 0x01002e2e) ∷ piece 32 (hex 3 0x020070) ∷ piece 48 (hex 3 0x030061) ∷ piece 64 (hex 3 0x06006c) ∷ piece 80 (hex 3 0x090072) ∷ [])) ∷ zone_with 6 (file 1024 (piece 0 (hex 3 0x02002e) ∷ piece 16 (hex 4 0x01002e2e) ∷ piece 32 (hex 3 0x040071) ∷ piece 48 (hex 3 0x050062) ∷ [])) ∷ zone_with 8 (file 1024 (piece 0 (hex 3 0x04002e) ∷ piece 16 (hex 4 0x02002e2e) ∷ piece 32 (hex 3 0x070063) ∷ piece 48 (hex 3 0x080064) ∷ [])) ∷ zone_with 13 (file 1024 (piece 0 (hex 3 0x09002e) ∷ piece 16 (hex 4 0x01002e2e) ∷ [])) ∷ []) (1 ∷ 2 ∷ 3 ∷ 4 ∷ 5 ∷ 6 ∷ 7 ∷ 8 ∷ 9 ∷ 16 ∷ []) (5 ∷ 6 ∷ 7 ∷ 8 ∷ 9 ∷ 10 ∷ 11 ∷ 12 ∷ 13 ∷ 47 ∷ [])) ≡ Ok (found (owned 5 1 false ∷ owned 6 2 false ∷ owned 7 3 false ∷ owned 8 4 false ∷ owned 9 5 false ∷ owned 10 5 false ∷ owned 11 6 false ∷ owned 12 7 false ∷ owned 13 9 false ∷ []) (0 ∷ 1 ∷ 1 ∷ 1 ∷ 1 ∷ 1 ∷ 1 ∷ 1 ∷ 1 ∷ 0 ∷ 0 ∷ 0 ∷ 0 ∷ 0 ∷ 0 ∷ 0 ∷ []))
unfolding number16 number32 is_zero kind_of super_of super_checks super_in super_at v1_inode v2_inode inode_of inode_at inode_place bit with_bit parts_of number_in follow pointer_by inside follow_at zone_at block_at content_at entry_of entry_at find_entry entries_at is_dots zone_number block content entry first_named lookup reached thing names names_in was_reached with_inode survey_walk owner names_of has_name judge judged survey_of is_indirect
minix_survey_bits_without_a_use_in_version_1_with_short_names = refl

-- free entry in version 1 with short names
pub minix_survey_free_entry_in_version_1_with_short_names : survey_found (volume_by (super_with V1Short 16 48 1 1 5) (node 16877 4 96 (5 ∷ 0 ∷ 0 ∷ 0 ∷ 0 ∷ 0 ∷ 0 ∷ 0 ∷ 0 ∷ 0 ∷ []) ∷ node 16877 3 64 (6 ∷ 0 ∷ 0 ∷ 0 ∷ 0 ∷ 0 ∷ 0 ∷ 0 ∷ 0 ∷ 0 ∷ []) ∷ node 33188 1 4 (7 ∷ 0 ∷ 0 ∷ 0 ∷ 0 ∷ 0 ∷ 0 ∷ 0 ∷ 0 ∷ 0 ∷ []) ∷ node 16877 2 64 (8 ∷ 0 ∷ 0 ∷ 0 ∷ 0 ∷ 0 ∷ 0 ∷ 0 ∷ 0 ∷ 0 ∷ []) ∷ node 33188 1 2000 (9 ∷ 10 ∷ 0 ∷ 0 ∷ 0 ∷ 0 ∷ 0 ∷ 0 ∷ 0 ∷ 0 ∷ []) ∷ node 41471 1 3 (11 ∷ 0 ∷ 0 ∷ 0 ∷ 0 ∷ 0 ∷ 0 ∷ 0 ∷ 0 ∷ 0 ∷ []) ∷ node 33188 1 1 (12 ∷ 0 ∷ 0 ∷ 0 ∷ 0 ∷ 0 ∷ 0 ∷ 0 ∷ 0 ∷ 0 ∷ []) ∷ node 33188 1 0 (0 ∷ 0 ∷ 0 ∷ 0 ∷ 0 ∷ 0 ∷ 0 ∷ 0 ∷ 0 ∷ 0 ∷ []) ∷ node 16877 2 32 (13 ∷ 0 ∷ 0 ∷ 0 ∷ 0 ∷ 0 ∷ 0 ∷ 0 ∷ 0 ∷ 0 ∷ []) ∷ []) (zone_with 5 (file 1024 (piece 0 (hex 3 0x01002e) ∷ piece 16 (hex 4 0x01002e2e) ∷ piece 32 (hex 3 0x020070) ∷ piece 48 (hex 3 0x030061) ∷ piece 64 (hex 3 0x06006c) ∷ piece 80 (hex 3 0x090072) ∷ [])) ∷ zone_with 6 (file 1024 (piece 0 (hex 3 0x02002e) ∷ piece 16 (hex 4 0x01002e2e) ∷ piece 32 (hex 3 0x040071) ∷ piece 48 (hex 3 0x050062) ∷ [])) ∷ zone_with 8 (file 1024 (piece 0 (hex 3 0x04002e) ∷ piece 16 (hex 4 0x02002e2e) ∷ piece 34 (codes "old") ∷ piece 48 (hex 3 0x080064) ∷ [])) ∷ zone_with 13 (file 1024 (piece 0 (hex 3 0x09002e) ∷ piece 16 (hex 4 0x01002e2e) ∷ [])) ∷ []) (1 ∷ 2 ∷ 3 ∷ 4 ∷ 5 ∷ 6 ∷ 7 ∷ 8 ∷ 9 ∷ []) (5 ∷ 6 ∷ 7 ∷ 8 ∷ 9 ∷ 10 ∷ 11 ∷ 12 ∷ 13 ∷ [])) ≡ Ok (found (owned 5 1 false ∷ owned 6 2 false ∷ owned 7 3 false ∷ owned 8 4 false ∷ owned 9 5 false ∷ owned 10 5 false ∷ owned 11 6 false ∷ owned 13 9 false ∷ []) (0 ∷ 1 ∷ 1 ∷ 1 ∷ 1 ∷ 1 ∷ 0 ∷ 1 ∷ 1 ∷ 0 ∷ 0 ∷ 0 ∷ 0 ∷ 0 ∷ 0 ∷ 0 ∷ []))
unfolding number16 number32 is_zero kind_of super_of super_checks super_in super_at v1_inode v2_inode inode_of inode_at inode_place bit with_bit parts_of number_in follow pointer_by inside follow_at zone_at block_at content_at entry_of entry_at find_entry entries_at is_dots zone_number block content entry first_named lookup reached thing names names_in was_reached with_inode survey_walk owner names_of has_name judge judged survey_of is_indirect
minix_survey_free_entry_in_version_1_with_short_names = refl

-- odd names in version 1 with short names
pub minix_survey_odd_names_in_version_1_with_short_names : survey_found (volume_by (super_with V1Short 16 48 1 1 5) (node 16877 4 96 (5 ∷ 0 ∷ 0 ∷ 0 ∷ 0 ∷ 0 ∷ 0 ∷ 0 ∷ 0 ∷ 0 ∷ []) ∷ node 16877 3 80 (6 ∷ 0 ∷ 0 ∷ 0 ∷ 0 ∷ 0 ∷ 0 ∷ 0 ∷ 0 ∷ 0 ∷ []) ∷ node 33188 2 4 (7 ∷ 0 ∷ 0 ∷ 0 ∷ 0 ∷ 0 ∷ 0 ∷ 0 ∷ 0 ∷ 0 ∷ []) ∷ node 16877 2 64 (8 ∷ 0 ∷ 0 ∷ 0 ∷ 0 ∷ 0 ∷ 0 ∷ 0 ∷ 0 ∷ 0 ∷ []) ∷ node 33188 1 2000 (9 ∷ 10 ∷ 0 ∷ 0 ∷ 0 ∷ 0 ∷ 0 ∷ 0 ∷ 0 ∷ 0 ∷ []) ∷ node 41471 1 3 (11 ∷ 0 ∷ 0 ∷ 0 ∷ 0 ∷ 0 ∷ 0 ∷ 0 ∷ 0 ∷ 0 ∷ []) ∷ node 33188 1 1 (12 ∷ 0 ∷ 0 ∷ 0 ∷ 0 ∷ 0 ∷ 0 ∷ 0 ∷ 0 ∷ 0 ∷ []) ∷ node 33188 1 0 (0 ∷ 0 ∷ 0 ∷ 0 ∷ 0 ∷ 0 ∷ 0 ∷ 0 ∷ 0 ∷ 0 ∷ []) ∷ node 16877 2 32 (13 ∷ 0 ∷ 0 ∷ 0 ∷ 0 ∷ 0 ∷ 0 ∷ 0 ∷ 0 ∷ 0 ∷ []) ∷ []) (zone_with 5 (file 1024 (piece 0 (hex 3 0x01002e) ∷ piece 16 (hex 4 0x01002e2e) ∷ piece 32 (hex 3 0x020070) ∷ piece 48 (hex 3 0x030061) ∷ piece 64 (hex 3 0x06006c) ∷ piece 80 (hex 3 0x090072) ∷ [])) ∷ zone_with 6 (file 1024 (piece 0 (hex 3 0x02002e) ∷ piece 16 (hex 4 0x01002e2e) ∷ piece 32 (hex 3 0x040071) ∷ piece 48 (hex 3 0x050062) ∷ piece 64 (hex 5 0x03002e2e2e) ∷ [])) ∷ zone_with 8 (file 1024 (piece 0 (hex 3 0x04002e) ∷ piece 16 (hex 4 0x02002e2e) ∷ piece 32 (hex 3 0x070063) ∷ piece 48 (hex 3 0x080064) ∷ [])) ∷ zone_with 13 (file 1024 (piece 0 (hex 3 0x09002e) ∷ piece 16 (hex 4 0x01002e2e) ∷ [])) ∷ []) (1 ∷ 2 ∷ 3 ∷ 4 ∷ 5 ∷ 6 ∷ 7 ∷ 8 ∷ 9 ∷ []) (5 ∷ 6 ∷ 7 ∷ 8 ∷ 9 ∷ 10 ∷ 11 ∷ 12 ∷ 13 ∷ [])) ≡ Ok (found (owned 5 1 false ∷ owned 6 2 false ∷ owned 7 3 false ∷ owned 8 4 false ∷ owned 9 5 false ∷ owned 10 5 false ∷ owned 11 6 false ∷ owned 12 7 false ∷ owned 13 9 false ∷ []) (0 ∷ 1 ∷ 2 ∷ 1 ∷ 1 ∷ 1 ∷ 1 ∷ 1 ∷ 1 ∷ 0 ∷ 0 ∷ 0 ∷ 0 ∷ 0 ∷ 0 ∷ 0 ∷ []))
unfolding number16 number32 is_zero kind_of super_of super_checks super_in super_at v1_inode v2_inode inode_of inode_at inode_place bit with_bit parts_of number_in follow pointer_by inside follow_at zone_at block_at content_at entry_of entry_at find_entry entries_at is_dots zone_number block content entry first_named lookup reached thing names names_in was_reached with_inode survey_walk owner names_of has_name judge judged survey_of is_indirect
minix_survey_odd_names_in_version_1_with_short_names = refl

-- a sound volume of version 1 with long names
pub minix_survey_a_sound_volume_of_version_1_with_long_names : survey_found (volume_by (super_with V1Long 16 48 1 1 5) (node 16877 4 192 (5 ∷ 0 ∷ 0 ∷ 0 ∷ 0 ∷ 0 ∷ 0 ∷ 0 ∷ 0 ∷ 0 ∷ []) ∷ node 16877 3 128 (6 ∷ 0 ∷ 0 ∷ 0 ∷ 0 ∷ 0 ∷ 0 ∷ 0 ∷ 0 ∷ 0 ∷ []) ∷ node 33188 1 4 (7 ∷ 0 ∷ 0 ∷ 0 ∷ 0 ∷ 0 ∷ 0 ∷ 0 ∷ 0 ∷ 0 ∷ []) ∷ node 16877 2 128 (8 ∷ 0 ∷ 0 ∷ 0 ∷ 0 ∷ 0 ∷ 0 ∷ 0 ∷ 0 ∷ 0 ∷ []) ∷ node 33188 1 2000 (9 ∷ 10 ∷ 0 ∷ 0 ∷ 0 ∷ 0 ∷ 0 ∷ 0 ∷ 0 ∷ 0 ∷ []) ∷ node 41471 1 3 (11 ∷ 0 ∷ 0 ∷ 0 ∷ 0 ∷ 0 ∷ 0 ∷ 0 ∷ 0 ∷ 0 ∷ []) ∷ node 33188 1 1 (12 ∷ 0 ∷ 0 ∷ 0 ∷ 0 ∷ 0 ∷ 0 ∷ 0 ∷ 0 ∷ 0 ∷ []) ∷ node 33188 1 0 (0 ∷ 0 ∷ 0 ∷ 0 ∷ 0 ∷ 0 ∷ 0 ∷ 0 ∷ 0 ∷ 0 ∷ []) ∷ node 16877 2 64 (13 ∷ 0 ∷ 0 ∷ 0 ∷ 0 ∷ 0 ∷ 0 ∷ 0 ∷ 0 ∷ 0 ∷ []) ∷ []) (zone_with 5 (file 1024 (piece 0 (hex 3 0x01002e) ∷ piece 32 (hex 4 0x01002e2e) ∷ piece 64 (hex 3 0x020070) ∷ piece 96 (hex 3 0x030061) ∷ piece 128 (hex 3 0x06006c) ∷ piece 160 (hex 3 0x090072) ∷ [])) ∷ zone_with 6 (file 1024 (piece 0 (hex 3 0x02002e) ∷ piece 32 (hex 4 0x01002e2e) ∷ piece 64 (hex 3 0x040071) ∷ piece 96 (hex 3 0x050062) ∷ [])) ∷ zone_with 8 (file 1024 (piece 0 (hex 3 0x04002e) ∷ piece 32 (hex 4 0x02002e2e) ∷ piece 64 (hex 3 0x070063) ∷ piece 96 (hex 3 0x080064) ∷ [])) ∷ zone_with 13 (file 1024 (piece 0 (hex 3 0x09002e) ∷ piece 32 (hex 4 0x01002e2e) ∷ [])) ∷ []) (1 ∷ 2 ∷ 3 ∷ 4 ∷ 5 ∷ 6 ∷ 7 ∷ 8 ∷ 9 ∷ []) (5 ∷ 6 ∷ 7 ∷ 8 ∷ 9 ∷ 10 ∷ 11 ∷ 12 ∷ 13 ∷ [])) ≡ Ok (found (owned 5 1 false ∷ owned 6 2 false ∷ owned 7 3 false ∷ owned 8 4 false ∷ owned 9 5 false ∷ owned 10 5 false ∷ owned 11 6 false ∷ owned 12 7 false ∷ owned 13 9 false ∷ []) (0 ∷ 1 ∷ 1 ∷ 1 ∷ 1 ∷ 1 ∷ 1 ∷ 1 ∷ 1 ∷ 0 ∷ 0 ∷ 0 ∷ 0 ∷ 0 ∷ 0 ∷ 0 ∷ []))
unfolding number16 number32 is_zero kind_of super_of super_checks super_in super_at v1_inode v2_inode inode_of inode_at inode_place bit with_bit parts_of number_in follow pointer_by inside follow_at zone_at block_at content_at entry_of entry_at find_entry entries_at is_dots zone_number block content entry first_named lookup reached thing names names_in was_reached with_inode survey_walk owner names_of has_name judge judged survey_of is_indirect
minix_survey_a_sound_volume_of_version_1_with_long_names = refl

-- a sound volume of version 1 with long names, with an indirect zone
pub minix_survey_a_sound_volume_of_version_1_with_long_names_with_an_indirect_zone : survey_found (volume_by (super_with V1Long 16 48 1 1 5) (node 16877 4 192 (5 ∷ 0 ∷ 0 ∷ 0 ∷ 0 ∷ 0 ∷ 0 ∷ 0 ∷ 0 ∷ 0 ∷ []) ∷ node 16877 3 128 (6 ∷ 0 ∷ 0 ∷ 0 ∷ 0 ∷ 0 ∷ 0 ∷ 0 ∷ 0 ∷ 0 ∷ []) ∷ node 33188 1 4 (7 ∷ 0 ∷ 0 ∷ 0 ∷ 0 ∷ 0 ∷ 0 ∷ 0 ∷ 0 ∷ 0 ∷ []) ∷ node 16877 2 128 (8 ∷ 0 ∷ 0 ∷ 0 ∷ 0 ∷ 0 ∷ 0 ∷ 0 ∷ 0 ∷ 0 ∷ []) ∷ node 33188 1 2000 (9 ∷ 10 ∷ 0 ∷ 0 ∷ 0 ∷ 0 ∷ 0 ∷ 0 ∷ 0 ∷ 0 ∷ []) ∷ node 41471 1 3 (11 ∷ 0 ∷ 0 ∷ 0 ∷ 0 ∷ 0 ∷ 0 ∷ 0 ∷ 0 ∷ 0 ∷ []) ∷ node 33188 1 1 (12 ∷ 0 ∷ 0 ∷ 0 ∷ 0 ∷ 0 ∷ 0 ∷ 0 ∷ 0 ∷ 0 ∷ []) ∷ node 33188 1 9216 (13 ∷ 14 ∷ 15 ∷ 16 ∷ 17 ∷ 18 ∷ 19 ∷ 22 ∷ 0 ∷ 0 ∷ []) ∷ node 16877 2 64 (23 ∷ 0 ∷ 0 ∷ 0 ∷ 0 ∷ 0 ∷ 0 ∷ 0 ∷ 0 ∷ 0 ∷ []) ∷ []) (zone_with 5 (file 1024 (piece 0 (hex 3 0x01002e) ∷ piece 32 (hex 4 0x01002e2e) ∷ piece 64 (hex 3 0x020070) ∷ piece 96 (hex 3 0x030061) ∷ piece 128 (hex 3 0x06006c) ∷ piece 160 (hex 3 0x090072) ∷ [])) ∷ zone_with 6 (file 1024 (piece 0 (hex 3 0x02002e) ∷ piece 32 (hex 4 0x01002e2e) ∷ piece 64 (hex 3 0x040071) ∷ piece 96 (hex 3 0x050062) ∷ [])) ∷ zone_with 8 (file 1024 (piece 0 (hex 3 0x04002e) ∷ piece 32 (hex 4 0x02002e2e) ∷ piece 64 (hex 3 0x070063) ∷ piece 96 (hex 5 0x0800626967) ∷ [])) ∷ zone_with 22 (file 1024 (piece 0 (hex 3 0x140015) ∷ [])) ∷ zone_with 23 (file 1024 (piece 0 (hex 3 0x09002e) ∷ piece 32 (hex 4 0x01002e2e) ∷ [])) ∷ []) (1 ∷ 2 ∷ 3 ∷ 4 ∷ 5 ∷ 6 ∷ 7 ∷ 8 ∷ 9 ∷ []) (5 ∷ 6 ∷ 7 ∷ 8 ∷ 9 ∷ 10 ∷ 11 ∷ 12 ∷ 13 ∷ 14 ∷ 15 ∷ 16 ∷ 17 ∷ 18 ∷ 19 ∷ 20 ∷ 21 ∷ 22 ∷ 23 ∷ [])) ≡ Ok (found (owned 5 1 false ∷ owned 6 2 false ∷ owned 7 3 false ∷ owned 8 4 false ∷ owned 9 5 false ∷ owned 10 5 false ∷ owned 11 6 false ∷ owned 12 7 false ∷ owned 13 8 false ∷ owned 14 8 false ∷ owned 15 8 false ∷ owned 16 8 false ∷ owned 17 8 false ∷ owned 18 8 false ∷ owned 19 8 false ∷ owned 20 8 false ∷ owned 21 8 false ∷ owned 22 8 true ∷ owned 23 9 false ∷ []) (0 ∷ 1 ∷ 1 ∷ 1 ∷ 1 ∷ 1 ∷ 1 ∷ 1 ∷ 1 ∷ 0 ∷ 0 ∷ 0 ∷ 0 ∷ 0 ∷ 0 ∷ 0 ∷ []))
unfolding number16 number32 is_zero kind_of super_of super_checks super_in super_at v1_inode v2_inode inode_of inode_at inode_place bit with_bit parts_of number_in follow pointer_by inside follow_at zone_at block_at content_at entry_of entry_at find_entry entries_at is_dots zone_number block content entry first_named lookup reached thing names names_in was_reached with_inode survey_walk owner names_of has_name judge judged survey_of is_indirect
minix_survey_a_sound_volume_of_version_1_with_long_names_with_an_indirect_zone = refl

-- inode unmarked and then hard link in version 1 with long names
pub minix_survey_inode_unmarked_and_then_hard_link_in_version_1_with_long_names : survey_found (volume_by (super_with V1Long 16 48 1 1 5) (node 16877 4 192 (5 ∷ 0 ∷ 0 ∷ 0 ∷ 0 ∷ 0 ∷ 0 ∷ 0 ∷ 0 ∷ 0 ∷ []) ∷ node 16877 3 128 (6 ∷ 0 ∷ 0 ∷ 0 ∷ 0 ∷ 0 ∷ 0 ∷ 0 ∷ 0 ∷ 0 ∷ []) ∷ node 33188 1 4 (7 ∷ 0 ∷ 0 ∷ 0 ∷ 0 ∷ 0 ∷ 0 ∷ 0 ∷ 0 ∷ 0 ∷ []) ∷ node 16877 2 160 (8 ∷ 0 ∷ 0 ∷ 0 ∷ 0 ∷ 0 ∷ 0 ∷ 0 ∷ 0 ∷ 0 ∷ []) ∷ node 33188 1 2000 (9 ∷ 10 ∷ 0 ∷ 0 ∷ 0 ∷ 0 ∷ 0 ∷ 0 ∷ 0 ∷ 0 ∷ []) ∷ node 41471 1 3 (11 ∷ 0 ∷ 0 ∷ 0 ∷ 0 ∷ 0 ∷ 0 ∷ 0 ∷ 0 ∷ 0 ∷ []) ∷ node 33188 3 1 (12 ∷ 0 ∷ 0 ∷ 0 ∷ 0 ∷ 0 ∷ 0 ∷ 0 ∷ 0 ∷ 0 ∷ []) ∷ node 33188 1 9216 (13 ∷ 14 ∷ 15 ∷ 16 ∷ 17 ∷ 18 ∷ 19 ∷ 22 ∷ 0 ∷ 0 ∷ []) ∷ node 16877 2 64 (23 ∷ 0 ∷ 0 ∷ 0 ∷ 0 ∷ 0 ∷ 0 ∷ 0 ∷ 0 ∷ 0 ∷ []) ∷ []) (zone_with 5 (file 1024 (piece 0 (hex 3 0x01002e) ∷ piece 32 (hex 4 0x01002e2e) ∷ piece 64 (hex 3 0x020070) ∷ piece 96 (hex 3 0x030061) ∷ piece 128 (hex 3 0x06006c) ∷ piece 160 (hex 3 0x090072) ∷ [])) ∷ zone_with 6 (file 1024 (piece 0 (hex 3 0x02002e) ∷ piece 32 (hex 4 0x01002e2e) ∷ piece 64 (hex 3 0x040071) ∷ piece 96 (hex 3 0x050062) ∷ [])) ∷ zone_with 8 (file 1024 (piece 0 (hex 3 0x04002e) ∷ piece 32 (hex 4 0x02002e2e) ∷ piece 64 (hex 3 0x070063) ∷ piece 96 (hex 5 0x0800626967) ∷ piece 128 (hex 6 0x070068617264) ∷ [])) ∷ zone_with 22 (file 1024 (piece 0 (hex 3 0x140015) ∷ [])) ∷ zone_with 23 (file 1024 (piece 0 (hex 3 0x09002e) ∷ piece 32 (hex 4 0x01002e2e) ∷ [])) ∷ []) (1 ∷ 3 ∷ 4 ∷ 5 ∷ 6 ∷ 7 ∷ 8 ∷ 9 ∷ []) (5 ∷ 6 ∷ 7 ∷ 8 ∷ 9 ∷ 10 ∷ 11 ∷ 12 ∷ 13 ∷ 14 ∷ 15 ∷ 16 ∷ 17 ∷ 18 ∷ 19 ∷ 20 ∷ 21 ∷ 22 ∷ 23 ∷ [])) ≡ Err (UnmarkedInode 2)
unfolding number16 number32 is_zero kind_of super_of super_checks super_in super_at v1_inode v2_inode inode_of inode_at inode_place bit with_bit parts_of number_in follow pointer_by inside follow_at zone_at block_at content_at entry_of entry_at find_entry entries_at is_dots zone_number block content entry first_named lookup reached thing names names_in was_reached with_inode survey_walk owner names_of has_name judge judged survey_of is_indirect
minix_survey_inode_unmarked_and_then_hard_link_in_version_1_with_long_names = refl

-- mode 0 and then zone unmarked in version 1 with long names
pub minix_survey_mode_0_and_then_zone_unmarked_in_version_1_with_long_names : survey_found (volume_by (super_with V1Long 16 48 1 1 5) (node 16877 4 192 (5 ∷ 0 ∷ 0 ∷ 0 ∷ 0 ∷ 0 ∷ 0 ∷ 0 ∷ 0 ∷ 0 ∷ []) ∷ node 16877 3 128 (6 ∷ 0 ∷ 0 ∷ 0 ∷ 0 ∷ 0 ∷ 0 ∷ 0 ∷ 0 ∷ 0 ∷ []) ∷ node 33188 1 4 (7 ∷ 0 ∷ 0 ∷ 0 ∷ 0 ∷ 0 ∷ 0 ∷ 0 ∷ 0 ∷ 0 ∷ []) ∷ node 16877 2 128 (8 ∷ 0 ∷ 0 ∷ 0 ∷ 0 ∷ 0 ∷ 0 ∷ 0 ∷ 0 ∷ 0 ∷ []) ∷ node 33188 1 2000 (9 ∷ 10 ∷ 0 ∷ 0 ∷ 0 ∷ 0 ∷ 0 ∷ 0 ∷ 0 ∷ 0 ∷ []) ∷ node 41471 1 3 (11 ∷ 0 ∷ 0 ∷ 0 ∷ 0 ∷ 0 ∷ 0 ∷ 0 ∷ 0 ∷ 0 ∷ []) ∷ node 33188 1 1 (12 ∷ 0 ∷ 0 ∷ 0 ∷ 0 ∷ 0 ∷ 0 ∷ 0 ∷ 0 ∷ 0 ∷ []) ∷ node 33188 1 9216 (13 ∷ 14 ∷ 15 ∷ 16 ∷ 17 ∷ 18 ∷ 19 ∷ 22 ∷ 0 ∷ 0 ∷ []) ∷ node 0 2 64 (23 ∷ 0 ∷ 0 ∷ 0 ∷ 0 ∷ 0 ∷ 0 ∷ 0 ∷ 0 ∷ 0 ∷ []) ∷ []) (zone_with 5 (file 1024 (piece 0 (hex 3 0x01002e) ∷ piece 32 (hex 4 0x01002e2e) ∷ piece 64 (hex 3 0x020070) ∷ piece 96 (hex 3 0x030061) ∷ piece 128 (hex 3 0x06006c) ∷ piece 160 (hex 3 0x090072) ∷ [])) ∷ zone_with 6 (file 1024 (piece 0 (hex 3 0x02002e) ∷ piece 32 (hex 4 0x01002e2e) ∷ piece 64 (hex 3 0x040071) ∷ piece 96 (hex 3 0x050062) ∷ [])) ∷ zone_with 8 (file 1024 (piece 0 (hex 3 0x04002e) ∷ piece 32 (hex 4 0x02002e2e) ∷ piece 64 (hex 3 0x070063) ∷ piece 96 (hex 5 0x0800626967) ∷ [])) ∷ zone_with 22 (file 1024 (piece 0 (hex 3 0x140015) ∷ [])) ∷ []) (1 ∷ 2 ∷ 3 ∷ 4 ∷ 5 ∷ 6 ∷ 7 ∷ 8 ∷ 9 ∷ []) (5 ∷ 6 ∷ 7 ∷ 8 ∷ 9 ∷ 10 ∷ 11 ∷ 12 ∷ 13 ∷ 14 ∷ 15 ∷ 16 ∷ 18 ∷ 19 ∷ 20 ∷ 21 ∷ 22 ∷ 23 ∷ [])) ≡ Err (Unmarked 17)
unfolding number16 number32 is_zero kind_of super_of super_checks super_in super_at v1_inode v2_inode inode_of inode_at inode_place bit with_bit parts_of number_in follow pointer_by inside follow_at zone_at block_at content_at entry_of entry_at find_entry entries_at is_dots zone_number block content entry first_named lookup reached thing names names_in was_reached with_inode survey_walk owner names_of has_name judge judged survey_of is_indirect
minix_survey_mode_0_and_then_zone_unmarked_in_version_1_with_long_names = refl

-- entry of the root in version 1 with long names
pub minix_survey_entry_of_the_root_in_version_1_with_long_names : survey_found (volume_by (super_with V1Long 16 48 1 1 5) (node 16877 4 192 (5 ∷ 0 ∷ 0 ∷ 0 ∷ 0 ∷ 0 ∷ 0 ∷ 0 ∷ 0 ∷ 0 ∷ []) ∷ node 16877 3 128 (6 ∷ 0 ∷ 0 ∷ 0 ∷ 0 ∷ 0 ∷ 0 ∷ 0 ∷ 0 ∷ 0 ∷ []) ∷ node 33188 1 4 (7 ∷ 0 ∷ 0 ∷ 0 ∷ 0 ∷ 0 ∷ 0 ∷ 0 ∷ 0 ∷ 0 ∷ []) ∷ node 16877 2 128 (8 ∷ 0 ∷ 0 ∷ 0 ∷ 0 ∷ 0 ∷ 0 ∷ 0 ∷ 0 ∷ 0 ∷ []) ∷ node 33188 1 2000 (9 ∷ 10 ∷ 0 ∷ 0 ∷ 0 ∷ 0 ∷ 0 ∷ 0 ∷ 0 ∷ 0 ∷ []) ∷ node 41471 1 3 (11 ∷ 0 ∷ 0 ∷ 0 ∷ 0 ∷ 0 ∷ 0 ∷ 0 ∷ 0 ∷ 0 ∷ []) ∷ node 33188 1 1 (12 ∷ 0 ∷ 0 ∷ 0 ∷ 0 ∷ 0 ∷ 0 ∷ 0 ∷ 0 ∷ 0 ∷ []) ∷ node 33188 1 0 (0 ∷ 0 ∷ 0 ∷ 0 ∷ 0 ∷ 0 ∷ 0 ∷ 0 ∷ 0 ∷ 0 ∷ []) ∷ node 16877 2 64 (13 ∷ 0 ∷ 0 ∷ 0 ∷ 0 ∷ 0 ∷ 0 ∷ 0 ∷ 0 ∷ 0 ∷ []) ∷ []) (zone_with 5 (file 1024 (piece 0 (hex 3 0x01002e) ∷ piece 32 (hex 4 0x01002e2e) ∷ piece 64 (hex 3 0x020070) ∷ piece 96 (hex 3 0x030061) ∷ piece 128 (hex 3 0x06006c) ∷ piece 160 (hex 3 0x090072) ∷ [])) ∷ zone_with 6 (file 1024 (piece 0 (hex 3 0x02002e) ∷ piece 32 (hex 4 0x01002e2e) ∷ piece 64 (hex 4 0x01007274) ∷ piece 96 (hex 3 0x050062) ∷ [])) ∷ zone_with 8 (file 1024 (piece 0 (hex 3 0x04002e) ∷ piece 32 (hex 4 0x02002e2e) ∷ piece 64 (hex 3 0x070063) ∷ piece 96 (hex 3 0x080064) ∷ [])) ∷ zone_with 13 (file 1024 (piece 0 (hex 3 0x09002e) ∷ piece 32 (hex 4 0x01002e2e) ∷ [])) ∷ []) (1 ∷ 2 ∷ 3 ∷ 4 ∷ 5 ∷ 6 ∷ 7 ∷ 8 ∷ 9 ∷ []) (5 ∷ 6 ∷ 7 ∷ 8 ∷ 9 ∷ 10 ∷ 11 ∷ 12 ∷ 13 ∷ [])) ≡ Err (BadLink 2 2)
unfolding number16 number32 is_zero kind_of super_of super_checks super_in super_at v1_inode v2_inode inode_of inode_at inode_place bit with_bit parts_of number_in follow pointer_by inside follow_at zone_at block_at content_at entry_of entry_at find_entry entries_at is_dots zone_number block content entry first_named lookup reached thing names names_in was_reached with_inode survey_walk owner names_of has_name judge judged survey_of is_indirect
minix_survey_entry_of_the_root_in_version_1_with_long_names = refl

-- hard link in version 1 with long names
pub minix_survey_hard_link_in_version_1_with_long_names : survey_found (volume_by (super_with V1Long 16 48 1 1 5) (node 16877 4 192 (5 ∷ 0 ∷ 0 ∷ 0 ∷ 0 ∷ 0 ∷ 0 ∷ 0 ∷ 0 ∷ 0 ∷ []) ∷ node 16877 3 128 (6 ∷ 0 ∷ 0 ∷ 0 ∷ 0 ∷ 0 ∷ 0 ∷ 0 ∷ 0 ∷ 0 ∷ []) ∷ node 33188 1 4 (7 ∷ 0 ∷ 0 ∷ 0 ∷ 0 ∷ 0 ∷ 0 ∷ 0 ∷ 0 ∷ 0 ∷ []) ∷ node 16877 2 128 (8 ∷ 0 ∷ 0 ∷ 0 ∷ 0 ∷ 0 ∷ 0 ∷ 0 ∷ 0 ∷ 0 ∷ []) ∷ node 33188 1 2000 (9 ∷ 10 ∷ 0 ∷ 0 ∷ 0 ∷ 0 ∷ 0 ∷ 0 ∷ 0 ∷ 0 ∷ []) ∷ node 41471 1 3 (11 ∷ 0 ∷ 0 ∷ 0 ∷ 0 ∷ 0 ∷ 0 ∷ 0 ∷ 0 ∷ 0 ∷ []) ∷ node 33188 2 1 (12 ∷ 0 ∷ 0 ∷ 0 ∷ 0 ∷ 0 ∷ 0 ∷ 0 ∷ 0 ∷ 0 ∷ []) ∷ node 33188 1 0 (0 ∷ 0 ∷ 0 ∷ 0 ∷ 0 ∷ 0 ∷ 0 ∷ 0 ∷ 0 ∷ 0 ∷ []) ∷ node 16877 2 96 (13 ∷ 0 ∷ 0 ∷ 0 ∷ 0 ∷ 0 ∷ 0 ∷ 0 ∷ 0 ∷ 0 ∷ []) ∷ []) (zone_with 5 (file 1024 (piece 0 (hex 3 0x01002e) ∷ piece 32 (hex 4 0x01002e2e) ∷ piece 64 (hex 3 0x020070) ∷ piece 96 (hex 3 0x030061) ∷ piece 128 (hex 3 0x06006c) ∷ piece 160 (hex 3 0x090072) ∷ [])) ∷ zone_with 6 (file 1024 (piece 0 (hex 3 0x02002e) ∷ piece 32 (hex 4 0x01002e2e) ∷ piece 64 (hex 3 0x040071) ∷ piece 96 (hex 3 0x050062) ∷ [])) ∷ zone_with 8 (file 1024 (piece 0 (hex 3 0x04002e) ∷ piece 32 (hex 4 0x02002e2e) ∷ piece 64 (hex 3 0x070063) ∷ piece 96 (hex 3 0x080064) ∷ [])) ∷ zone_with 13 (file 1024 (piece 0 (hex 3 0x09002e) ∷ piece 32 (hex 4 0x01002e2e) ∷ piece 64 (hex 6 0x070068617264) ∷ [])) ∷ []) (1 ∷ 2 ∷ 3 ∷ 4 ∷ 5 ∷ 6 ∷ 7 ∷ 8 ∷ 9 ∷ []) (5 ∷ 6 ∷ 7 ∷ 8 ∷ 9 ∷ 10 ∷ 11 ∷ 12 ∷ 13 ∷ [])) ≡ Ok (found (owned 5 1 false ∷ owned 6 2 false ∷ owned 7 3 false ∷ owned 8 4 false ∷ owned 9 5 false ∷ owned 10 5 false ∷ owned 11 6 false ∷ owned 12 7 false ∷ owned 13 9 false ∷ []) (0 ∷ 1 ∷ 1 ∷ 1 ∷ 1 ∷ 1 ∷ 2 ∷ 1 ∷ 1 ∷ 0 ∷ 0 ∷ 0 ∷ 0 ∷ 0 ∷ 0 ∷ 0 ∷ []))
unfolding number16 number32 is_zero kind_of super_of super_checks super_in super_at v1_inode v2_inode inode_of inode_at inode_place bit with_bit parts_of number_in follow pointer_by inside follow_at zone_at block_at content_at entry_of entry_at find_entry entries_at is_dots zone_number block content entry first_named lookup reached thing names names_in was_reached with_inode survey_walk owner names_of has_name judge judged survey_of is_indirect
minix_survey_hard_link_in_version_1_with_long_names = refl

-- . wrong in version 1 with long names
pub minix_survey_dot_wrong_in_version_1_with_long_names : survey_found (volume_by (super_with V1Long 16 48 1 1 5) (node 16877 4 192 (5 ∷ 0 ∷ 0 ∷ 0 ∷ 0 ∷ 0 ∷ 0 ∷ 0 ∷ 0 ∷ 0 ∷ []) ∷ node 16877 3 128 (6 ∷ 0 ∷ 0 ∷ 0 ∷ 0 ∷ 0 ∷ 0 ∷ 0 ∷ 0 ∷ 0 ∷ []) ∷ node 33188 1 4 (7 ∷ 0 ∷ 0 ∷ 0 ∷ 0 ∷ 0 ∷ 0 ∷ 0 ∷ 0 ∷ 0 ∷ []) ∷ node 16877 2 128 (8 ∷ 0 ∷ 0 ∷ 0 ∷ 0 ∷ 0 ∷ 0 ∷ 0 ∷ 0 ∷ 0 ∷ []) ∷ node 33188 1 2000 (9 ∷ 10 ∷ 0 ∷ 0 ∷ 0 ∷ 0 ∷ 0 ∷ 0 ∷ 0 ∷ 0 ∷ []) ∷ node 41471 1 3 (11 ∷ 0 ∷ 0 ∷ 0 ∷ 0 ∷ 0 ∷ 0 ∷ 0 ∷ 0 ∷ 0 ∷ []) ∷ node 33188 1 1 (12 ∷ 0 ∷ 0 ∷ 0 ∷ 0 ∷ 0 ∷ 0 ∷ 0 ∷ 0 ∷ 0 ∷ []) ∷ node 33188 1 0 (0 ∷ 0 ∷ 0 ∷ 0 ∷ 0 ∷ 0 ∷ 0 ∷ 0 ∷ 0 ∷ 0 ∷ []) ∷ node 16877 2 64 (13 ∷ 0 ∷ 0 ∷ 0 ∷ 0 ∷ 0 ∷ 0 ∷ 0 ∷ 0 ∷ 0 ∷ []) ∷ []) (zone_with 5 (file 1024 (piece 0 (hex 3 0x01002e) ∷ piece 32 (hex 4 0x01002e2e) ∷ piece 64 (hex 3 0x020070) ∷ piece 96 (hex 3 0x030061) ∷ piece 128 (hex 3 0x06006c) ∷ piece 160 (hex 3 0x090072) ∷ [])) ∷ zone_with 6 (file 1024 (piece 0 (hex 3 0x01002e) ∷ piece 32 (hex 4 0x01002e2e) ∷ piece 64 (hex 3 0x040071) ∷ piece 96 (hex 3 0x050062) ∷ [])) ∷ zone_with 8 (file 1024 (piece 0 (hex 3 0x04002e) ∷ piece 32 (hex 4 0x02002e2e) ∷ piece 64 (hex 3 0x070063) ∷ piece 96 (hex 3 0x080064) ∷ [])) ∷ zone_with 13 (file 1024 (piece 0 (hex 3 0x09002e) ∷ piece 32 (hex 4 0x01002e2e) ∷ [])) ∷ []) (1 ∷ 2 ∷ 3 ∷ 4 ∷ 5 ∷ 6 ∷ 7 ∷ 8 ∷ 9 ∷ []) (5 ∷ 6 ∷ 7 ∷ 8 ∷ 9 ∷ 10 ∷ 11 ∷ 12 ∷ 13 ∷ [])) ≡ Err (BadLink 2 0)
unfolding number16 number32 is_zero kind_of super_of super_checks super_in super_at v1_inode v2_inode inode_of inode_at inode_place bit with_bit parts_of number_in follow pointer_by inside follow_at zone_at block_at content_at entry_of entry_at find_entry entries_at is_dots zone_number block content entry first_named lookup reached thing names names_in was_reached with_inode survey_walk owner names_of has_name judge judged survey_of is_indirect
minix_survey_dot_wrong_in_version_1_with_long_names = refl

-- . missing in version 1 with long names
pub minix_survey_dot_missing_in_version_1_with_long_names : survey_found (volume_by (super_with V1Long 16 48 1 1 5) (node 16877 4 192 (5 ∷ 0 ∷ 0 ∷ 0 ∷ 0 ∷ 0 ∷ 0 ∷ 0 ∷ 0 ∷ 0 ∷ []) ∷ node 16877 3 128 (6 ∷ 0 ∷ 0 ∷ 0 ∷ 0 ∷ 0 ∷ 0 ∷ 0 ∷ 0 ∷ 0 ∷ []) ∷ node 33188 1 4 (7 ∷ 0 ∷ 0 ∷ 0 ∷ 0 ∷ 0 ∷ 0 ∷ 0 ∷ 0 ∷ 0 ∷ []) ∷ node 16877 2 128 (8 ∷ 0 ∷ 0 ∷ 0 ∷ 0 ∷ 0 ∷ 0 ∷ 0 ∷ 0 ∷ 0 ∷ []) ∷ node 33188 1 2000 (9 ∷ 10 ∷ 0 ∷ 0 ∷ 0 ∷ 0 ∷ 0 ∷ 0 ∷ 0 ∷ 0 ∷ []) ∷ node 41471 1 3 (11 ∷ 0 ∷ 0 ∷ 0 ∷ 0 ∷ 0 ∷ 0 ∷ 0 ∷ 0 ∷ 0 ∷ []) ∷ node 33188 1 1 (12 ∷ 0 ∷ 0 ∷ 0 ∷ 0 ∷ 0 ∷ 0 ∷ 0 ∷ 0 ∷ 0 ∷ []) ∷ node 33188 1 0 (0 ∷ 0 ∷ 0 ∷ 0 ∷ 0 ∷ 0 ∷ 0 ∷ 0 ∷ 0 ∷ 0 ∷ []) ∷ node 16877 2 64 (13 ∷ 0 ∷ 0 ∷ 0 ∷ 0 ∷ 0 ∷ 0 ∷ 0 ∷ 0 ∷ 0 ∷ []) ∷ []) (zone_with 5 (file 1024 (piece 0 (hex 3 0x01002e) ∷ piece 32 (hex 4 0x01002e2e) ∷ piece 64 (hex 3 0x020070) ∷ piece 96 (hex 3 0x030061) ∷ piece 128 (hex 3 0x06006c) ∷ piece 160 (hex 3 0x090072) ∷ [])) ∷ zone_with 6 (file 1024 (piece 2 (codes ".") ∷ piece 32 (hex 4 0x01002e2e) ∷ piece 64 (hex 3 0x040071) ∷ piece 96 (hex 3 0x050062) ∷ [])) ∷ zone_with 8 (file 1024 (piece 0 (hex 3 0x04002e) ∷ piece 32 (hex 4 0x02002e2e) ∷ piece 64 (hex 3 0x070063) ∷ piece 96 (hex 3 0x080064) ∷ [])) ∷ zone_with 13 (file 1024 (piece 0 (hex 3 0x09002e) ∷ piece 32 (hex 4 0x01002e2e) ∷ [])) ∷ []) (1 ∷ 2 ∷ 3 ∷ 4 ∷ 5 ∷ 6 ∷ 7 ∷ 8 ∷ 9 ∷ []) (5 ∷ 6 ∷ 7 ∷ 8 ∷ 9 ∷ 10 ∷ 11 ∷ 12 ∷ 13 ∷ [])) ≡ Err (BadLink 2 4)
unfolding number16 number32 is_zero kind_of super_of super_checks super_in super_at v1_inode v2_inode inode_of inode_at inode_place bit with_bit parts_of number_in follow pointer_by inside follow_at zone_at block_at content_at entry_of entry_at find_entry entries_at is_dots zone_number block content entry first_named lookup reached thing names names_in was_reached with_inode survey_walk owner names_of has_name judge judged survey_of is_indirect
minix_survey_dot_missing_in_version_1_with_long_names = refl

-- . renamed in version 1 with long names
pub minix_survey_dot_renamed_in_version_1_with_long_names : survey_found (volume_by (super_with V1Long 16 48 1 1 5) (node 16877 4 192 (5 ∷ 0 ∷ 0 ∷ 0 ∷ 0 ∷ 0 ∷ 0 ∷ 0 ∷ 0 ∷ 0 ∷ []) ∷ node 16877 3 128 (6 ∷ 0 ∷ 0 ∷ 0 ∷ 0 ∷ 0 ∷ 0 ∷ 0 ∷ 0 ∷ 0 ∷ []) ∷ node 33188 1 4 (7 ∷ 0 ∷ 0 ∷ 0 ∷ 0 ∷ 0 ∷ 0 ∷ 0 ∷ 0 ∷ 0 ∷ []) ∷ node 16877 2 128 (8 ∷ 0 ∷ 0 ∷ 0 ∷ 0 ∷ 0 ∷ 0 ∷ 0 ∷ 0 ∷ 0 ∷ []) ∷ node 33188 1 2000 (9 ∷ 10 ∷ 0 ∷ 0 ∷ 0 ∷ 0 ∷ 0 ∷ 0 ∷ 0 ∷ 0 ∷ []) ∷ node 41471 1 3 (11 ∷ 0 ∷ 0 ∷ 0 ∷ 0 ∷ 0 ∷ 0 ∷ 0 ∷ 0 ∷ 0 ∷ []) ∷ node 33188 1 1 (12 ∷ 0 ∷ 0 ∷ 0 ∷ 0 ∷ 0 ∷ 0 ∷ 0 ∷ 0 ∷ 0 ∷ []) ∷ node 33188 1 0 (0 ∷ 0 ∷ 0 ∷ 0 ∷ 0 ∷ 0 ∷ 0 ∷ 0 ∷ 0 ∷ 0 ∷ []) ∷ node 16877 2 64 (13 ∷ 0 ∷ 0 ∷ 0 ∷ 0 ∷ 0 ∷ 0 ∷ 0 ∷ 0 ∷ 0 ∷ []) ∷ []) (zone_with 5 (file 1024 (piece 0 (hex 3 0x01002e) ∷ piece 32 (hex 4 0x01002e2e) ∷ piece 64 (hex 3 0x020070) ∷ piece 96 (hex 3 0x030061) ∷ piece 128 (hex 3 0x06006c) ∷ piece 160 (hex 3 0x090072) ∷ [])) ∷ zone_with 6 (file 1024 (piece 0 (hex 3 0x02002e) ∷ piece 32 (hex 4 0x01002e2e) ∷ piece 64 (hex 3 0x040071) ∷ piece 96 (hex 3 0x050062) ∷ [])) ∷ zone_with 8 (file 1024 (piece 0 (hex 3 0x04002e) ∷ piece 32 (hex 4 0x02002e2e) ∷ piece 64 (hex 3 0x070063) ∷ piece 96 (hex 3 0x080064) ∷ [])) ∷ zone_with 13 (file 1024 (piece 0 (hex 5 0x0300646f74) ∷ piece 32 (hex 4 0x01002e2e) ∷ [])) ∷ []) (1 ∷ 2 ∷ 3 ∷ 4 ∷ 5 ∷ 6 ∷ 7 ∷ 8 ∷ 9 ∷ []) (5 ∷ 6 ∷ 7 ∷ 8 ∷ 9 ∷ 10 ∷ 11 ∷ 12 ∷ 13 ∷ [])) ≡ Err (FewLinks 3)
unfolding number16 number32 is_zero kind_of super_of super_checks super_in super_at v1_inode v2_inode inode_of inode_at inode_place bit with_bit parts_of number_in follow pointer_by inside follow_at zone_at block_at content_at entry_of entry_at find_entry entries_at is_dots zone_number block content entry first_named lookup reached thing names names_in was_reached with_inode survey_walk owner names_of has_name judge judged survey_of is_indirect
minix_survey_dot_renamed_in_version_1_with_long_names = refl
