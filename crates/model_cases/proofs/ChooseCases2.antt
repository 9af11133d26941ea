-- Cases of what is chosen for a new file of a Minix volume, written by tools/choose_cases.py.
use Rattle.std.proofs.Common.{◌≡◌, [], ◌∷◌, Ok, Err, codes, replicate, ◌++◌, refl}
use Rattle.lilo_model.specs.Bytes.{number16, number32}
use Rattle.lilo_model.specs.MinixEntries.{entry_of, entry_at, find_entry}
use Rattle.lilo_model.specs.MinixLayout.{V1Long, V2Short, V2Long}
use Rattle.lilo_model.specs.MinixParts.{number_in, follow, pointer_by, inside, follow_at, zone_at, block_at}
use Rattle.lilo_model.specs.MinixWalk.{branch_of}
use Rattle.write_model.specs.Choice.{free_inode, left_zones, name_check, file_need, choice_with, zones_check, choose_blocks, choose, taken_with}
use Rattle.write_model.specs.FileZones.{data_blocks, made_above, made_indirect}
use Rattle.write_model.specs.Growth.{way_along, missing_on_way, promised_zone}
use Rattle.write_model.specs.Places.{all_entries, has_name, is_overlooked, is_promised, new_place}
use Rattle.write_model.specs.Wish.{NameTooLong, Exists, NoInode, NoSpace}
use Rattle.model_cases.specs.Sparse.{file, piece, hex}
use Rattle.model_cases.specs.Surveys.{super_with, volume_by, node, zone_with}
use Rattle.model_cases.specs.Choices.{choose_on, taken_by, promise, overlook, wish, choice, up_from}

-- two zones for three blocks in version 1 with long names
pub minix_choose_two_zones_for_three_blocks_in_version_1_with_long_names : choose_on (volume_by (super_with V1Long 16 11 1 1 8) (node 16877 2 64 (8 ∷ 0 ∷ 0 ∷ 0 ∷ 0 ∷ 0 ∷ 0 ∷ 0 ∷ 0 ∷ 0 ∷ []) ∷ []) (zone_with 8 (file 1024 (piece 0 (hex 3 0x01002e) ∷ piece 32 (hex 4 0x01002e2e) ∷ [])) ∷ []) (1 ∷ []) (8 ∷ [])) (taken_by [] [] [] []) (wish 3000 [] 1 (codes "new")) ≡ Err (NoSpace 3 2)
unfolding number16 number32 number_in follow pointer_by inside follow_at zone_at block_at entry_of entry_at find_entry data_blocks made_above made_indirect all_entries has_name is_overlooked is_promised new_place way_along missing_on_way promised_zone free_inode left_zones name_check file_need choice_with zones_check choose_blocks choose taken_with branch_of
minix_choose_two_zones_for_three_blocks_in_version_1_with_long_names = refl

-- two zones for two blocks in version 1 with long names
pub minix_choose_two_zones_for_two_blocks_in_version_1_with_long_names : choose_on (volume_by (super_with V1Long 16 11 1 1 8) (node 16877 2 64 (8 ∷ 0 ∷ 0 ∷ 0 ∷ 0 ∷ 0 ∷ 0 ∷ 0 ∷ 0 ∷ 0 ∷ []) ∷ []) (zone_with 8 (file 1024 (piece 0 (hex 3 0x01002e) ∷ piece 32 (hex 4 0x01002e2e) ∷ [])) ∷ []) (1 ∷ []) (8 ∷ [])) (taken_by [] [] [] []) (wish 2048 [] 1 (codes "new")) ≡ Ok (choice 2 2 (9 ∷ 10 ∷ []) (9 ∷ 10 ∷ []) [] [])
unfolding number16 number32 number_in follow pointer_by inside follow_at zone_at block_at entry_of entry_at find_entry data_blocks made_above made_indirect all_entries has_name is_overlooked is_promised new_place way_along missing_on_way promised_zone free_inode left_zones name_check file_need choice_with zones_check choose_blocks choose taken_with branch_of
minix_choose_two_zones_for_two_blocks_in_version_1_with_long_names = refl

-- a zone too few for the indirect one in version 1 with long names
pub minix_choose_a_zone_too_few_for_the_indirect_one_in_version_1_with_long_names : choose_on (volume_by (super_with V1Long 16 17 1 1 8) (node 16877 2 64 (8 ∷ 0 ∷ 0 ∷ 0 ∷ 0 ∷ 0 ∷ 0 ∷ 0 ∷ 0 ∷ 0 ∷ []) ∷ []) (zone_with 8 (file 1024 (piece 0 (hex 3 0x01002e) ∷ piece 32 (hex 4 0x01002e2e) ∷ [])) ∷ []) (1 ∷ []) (8 ∷ [])) (taken_by [] [] [] []) (wish 8192 [] 1 (codes "new")) ≡ Err (NoSpace 9 8)
unfolding number16 number32 number_in follow pointer_by inside follow_at zone_at block_at entry_of entry_at find_entry data_blocks made_above made_indirect all_entries has_name is_overlooked is_promised new_place way_along missing_on_way promised_zone free_inode left_zones name_check file_need choice_with zones_check choose_blocks choose taken_with branch_of
minix_choose_a_zone_too_few_for_the_indirect_one_in_version_1_with_long_names = refl

-- growth where the zone is there in version 1 with long names
pub minix_choose_growth_where_the_zone_is_there_in_version_1_with_long_names : choose_on (volume_by (super_with V1Long 16 64 1 1 8) (node 16877 2 64 (8 ∷ 0 ∷ 0 ∷ 0 ∷ 0 ∷ 0 ∷ 0 ∷ 0 ∷ 0 ∷ 0 ∷ []) ∷ []) (zone_with 8 (file 1024 (piece 0 (hex 3 0x01002e) ∷ piece 32 (hex 4 0x01002e2e) ∷ [])) ∷ []) (1 ∷ []) (8 ∷ [])) (taken_by [] [] [] []) (wish 1 [] 1 (codes "new")) ≡ Ok (choice 2 2 (9 ∷ []) (9 ∷ []) [] [])
unfolding number16 number32 number_in follow pointer_by inside follow_at zone_at block_at entry_of entry_at find_entry data_blocks made_above made_indirect all_entries has_name is_overlooked is_promised new_place way_along missing_on_way promised_zone free_inode left_zones name_check file_need choice_with zones_check choose_blocks choose taken_with branch_of
minix_choose_growth_where_the_zone_is_there_in_version_1_with_long_names = refl

-- growth by a zone in version 1 with long names
pub minix_choose_growth_by_a_zone_in_version_1_with_long_names : choose_on (volume_by (super_with V1Long 80 64 1 1 8) (node 16877 2 1024 (8 ∷ 0 ∷ 0 ∷ 0 ∷ 0 ∷ 0 ∷ 0 ∷ 0 ∷ 0 ∷ 0 ∷ []) ∷ node 33188 1 0 (0 ∷ 0 ∷ 0 ∷ 0 ∷ 0 ∷ 0 ∷ 0 ∷ 0 ∷ 0 ∷ 0 ∷ []) ∷ node 33188 1 0 (0 ∷ 0 ∷ 0 ∷ 0 ∷ 0 ∷ 0 ∷ 0 ∷ 0 ∷ 0 ∷ 0 ∷ []) ∷ node 33188 1 0 (0 ∷ 0 ∷ 0 ∷ 0 ∷ 0 ∷ 0 ∷ 0 ∷ 0 ∷ 0 ∷ 0 ∷ []) ∷ node 33188 1 0 (0 ∷ 0 ∷ 0 ∷ 0 ∷ 0 ∷ 0 ∷ 0 ∷ 0 ∷ 0 ∷ 0 ∷ []) ∷ node 33188 1 0 (0 ∷ 0 ∷ 0 ∷ 0 ∷ 0 ∷ 0 ∷ 0 ∷ 0 ∷ 0 ∷ 0 ∷ []) ∷ node 33188 1 0 (0 ∷ 0 ∷ 0 ∷ 0 ∷ 0 ∷ 0 ∷ 0 ∷ 0 ∷ 0 ∷ 0 ∷ []) ∷ node 33188 1 0 (0 ∷ 0 ∷ 0 ∷ 0 ∷ 0 ∷ 0 ∷ 0 ∷ 0 ∷ 0 ∷ 0 ∷ []) ∷ node 33188 1 0 (0 ∷ 0 ∷ 0 ∷ 0 ∷ 0 ∷ 0 ∷ 0 ∷ 0 ∷ 0 ∷ 0 ∷ []) ∷ node 33188 1 0 (0 ∷ 0 ∷ 0 ∷ 0 ∷ 0 ∷ 0 ∷ 0 ∷ 0 ∷ 0 ∷ 0 ∷ []) ∷ node 33188 1 0 (0 ∷ 0 ∷ 0 ∷ 0 ∷ 0 ∷ 0 ∷ 0 ∷ 0 ∷ 0 ∷ 0 ∷ []) ∷ node 33188 1 0 (0 ∷ 0 ∷ 0 ∷ 0 ∷ 0 ∷ 0 ∷ 0 ∷ 0 ∷ 0 ∷ 0 ∷ []) ∷ node 33188 1 0 (0 ∷ 0 ∷ 0 ∷ 0 ∷ 0 ∷ 0 ∷ 0 ∷ 0 ∷ 0 ∷ 0 ∷ []) ∷ node 33188 1 0 (0 ∷ 0 ∷ 0 ∷ 0 ∷ 0 ∷ 0 ∷ 0 ∷ 0 ∷ 0 ∷ 0 ∷ []) ∷ node 33188 1 0 (0 ∷ 0 ∷ 0 ∷ 0 ∷ 0 ∷ 0 ∷ 0 ∷ 0 ∷ 0 ∷ 0 ∷ []) ∷ node 33188 1 0 (0 ∷ 0 ∷ 0 ∷ 0 ∷ 0 ∷ 0 ∷ 0 ∷ 0 ∷ 0 ∷ 0 ∷ []) ∷ node 33188 1 0 (0 ∷ 0 ∷ 0 ∷ 0 ∷ 0 ∷ 0 ∷ 0 ∷ 0 ∷ 0 ∷ 0 ∷ []) ∷ node 33188 1 0 (0 ∷ 0 ∷ 0 ∷ 0 ∷ 0 ∷ 0 ∷ 0 ∷ 0 ∷ 0 ∷ 0 ∷ []) ∷ node 33188 1 0 (0 ∷ 0 ∷ 0 ∷ 0 ∷ 0 ∷ 0 ∷ 0 ∷ 0 ∷ 0 ∷ 0 ∷ []) ∷ node 33188 1 0 (0 ∷ 0 ∷ 0 ∷ 0 ∷ 0 ∷ 0 ∷ 0 ∷ 0 ∷ 0 ∷ 0 ∷ []) ∷ node 33188 1 0 (0 ∷ 0 ∷ 0 ∷ 0 ∷ 0 ∷ 0 ∷ 0 ∷ 0 ∷ 0 ∷ 0 ∷ []) ∷ node 33188 1 0 (0 ∷ 0 ∷ 0 ∷ 0 ∷ 0 ∷ 0 ∷ 0 ∷ 0 ∷ 0 ∷ 0 ∷ []) ∷ node 33188 1 0 (0 ∷ 0 ∷ 0 ∷ 0 ∷ 0 ∷ 0 ∷ 0 ∷ 0 ∷ 0 ∷ 0 ∷ []) ∷ node 33188 1 0 (0 ∷ 0 ∷ 0 ∷ 0 ∷ 0 ∷ 0 ∷ 0 ∷ 0 ∷ 0 ∷ 0 ∷ []) ∷ node 33188 1 0 (0 ∷ 0 ∷ 0 ∷ 0 ∷ 0 ∷ 0 ∷ 0 ∷ 0 ∷ 0 ∷ 0 ∷ []) ∷ node 33188 1 0 (0 ∷ 0 ∷ 0 ∷ 0 ∷ 0 ∷ 0 ∷ 0 ∷ 0 ∷ 0 ∷ 0 ∷ []) ∷ node 33188 1 0 (0 ∷ 0 ∷ 0 ∷ 0 ∷ 0 ∷ 0 ∷ 0 ∷ 0 ∷ 0 ∷ 0 ∷ []) ∷ node 33188 1 0 (0 ∷ 0 ∷ 0 ∷ 0 ∷ 0 ∷ 0 ∷ 0 ∷ 0 ∷ 0 ∷ 0 ∷ []) ∷ node 33188 1 0 (0 ∷ 0 ∷ 0 ∷ 0 ∷ 0 ∷ 0 ∷ 0 ∷ 0 ∷ 0 ∷ 0 ∷ []) ∷ node 33188 1 0 (0 ∷ 0 ∷ 0 ∷ 0 ∷ 0 ∷ 0 ∷ 0 ∷ 0 ∷ 0 ∷ 0 ∷ []) ∷ node 33188 1 0 (0 ∷ 0 ∷ 0 ∷ 0 ∷ 0 ∷ 0 ∷ 0 ∷ 0 ∷ 0 ∷ 0 ∷ []) ∷ []) (zone_with 8 (file 1024 (piece 0 (hex 3 0x01002e) ∷ piece 32 (hex 4 0x01002e2e) ∷ piece 64 (hex 4 0x02006630) ∷ piece 96 (hex 4 0x03006631) ∷ piece 128 (hex 4 0x04006632) ∷ piece 160 (hex 4 0x05006633) ∷ piece 192 (hex 4 0x06006634) ∷ piece 224 (hex 4 0x07006635) ∷ piece 256 (hex 4 0x08006636) ∷ piece 288 (hex 4 0x09006637) ∷ piece 320 (hex 4 0x0a006638) ∷ piece 352 (hex 4 0x0b006639) ∷ piece 384 (hex 5 0x0c00663130) ∷ piece 416 (hex 5 0x0d00663131) ∷ piece 448 (hex 5 0x0e00663132) ∷ piece 480 (hex 5 0x0f00663133) ∷ piece 512 (hex 5 0x1000663134) ∷ piece 544 (hex 5 0x1100663135) ∷ piece 576 (hex 5 0x1200663136) ∷ piece 608 (hex 5 0x1300663137) ∷ piece 640 (hex 5 0x1400663138) ∷ piece 672 (hex 5 0x1500663139) ∷ piece 704 (hex 5 0x1600663230) ∷ piece 736 (hex 5 0x1700663231) ∷ piece 768 (hex 5 0x1800663232) ∷ piece 800 (hex 5 0x1900663233) ∷ piece 832 (hex 5 0x1a00663234) ∷ piece 864 (hex 5 0x1b00663235) ∷ piece 896 (hex 5 0x1c00663236) ∷ piece 928 (hex 5 0x1d00663237) ∷ piece 960 (hex 5 0x1e00663238) ∷ piece 992 (hex 5 0x1f00663239) ∷ [])) ∷ []) (1 ∷ 2 ∷ 3 ∷ 4 ∷ 5 ∷ 6 ∷ 7 ∷ 8 ∷ 9 ∷ 10 ∷ 11 ∷ 12 ∷ 13 ∷ 14 ∷ 15 ∷ 16 ∷ 17 ∷ 18 ∷ 19 ∷ 20 ∷ 21 ∷ 22 ∷ 23 ∷ 24 ∷ 25 ∷ 26 ∷ 27 ∷ 28 ∷ 29 ∷ 30 ∷ 31 ∷ []) (8 ∷ [])) (taken_by [] [] [] []) (wish 1 [] 1 (codes "new")) ≡ Ok (choice 32 32 (9 ∷ 10 ∷ []) (9 ∷ []) [] (10 ∷ []))
unfolding number16 number32 number_in follow pointer_by inside follow_at zone_at block_at entry_of entry_at find_entry data_blocks made_above made_indirect all_entries has_name is_overlooked is_promised new_place way_along missing_on_way promised_zone free_inode left_zones name_check file_need choice_with zones_check choose_blocks choose taken_with branch_of
minix_choose_growth_by_a_zone_in_version_1_with_long_names = refl

-- a second file in the zone that was promised in version 1 with long names
pub minix_choose_a_second_file_in_the_zone_that_was_promised_in_version_1_with_long_names : choose_on (volume_by (super_with V1Long 80 64 1 1 8) (node 16877 2 1024 (8 ∷ 0 ∷ 0 ∷ 0 ∷ 0 ∷ 0 ∷ 0 ∷ 0 ∷ 0 ∷ 0 ∷ []) ∷ node 33188 1 0 (0 ∷ 0 ∷ 0 ∷ 0 ∷ 0 ∷ 0 ∷ 0 ∷ 0 ∷ 0 ∷ 0 ∷ []) ∷ node 33188 1 0 (0 ∷ 0 ∷ 0 ∷ 0 ∷ 0 ∷ 0 ∷ 0 ∷ 0 ∷ 0 ∷ 0 ∷ []) ∷ node 33188 1 0 (0 ∷ 0 ∷ 0 ∷ 0 ∷ 0 ∷ 0 ∷ 0 ∷ 0 ∷ 0 ∷ 0 ∷ []) ∷ node 33188 1 0 (0 ∷ 0 ∷ 0 ∷ 0 ∷ 0 ∷ 0 ∷ 0 ∷ 0 ∷ 0 ∷ 0 ∷ []) ∷ node 33188 1 0 (0 ∷ 0 ∷ 0 ∷ 0 ∷ 0 ∷ 0 ∷ 0 ∷ 0 ∷ 0 ∷ 0 ∷ []) ∷ node 33188 1 0 (0 ∷ 0 ∷ 0 ∷ 0 ∷ 0 ∷ 0 ∷ 0 ∷ 0 ∷ 0 ∷ 0 ∷ []) ∷ node 33188 1 0 (0 ∷ 0 ∷ 0 ∷ 0 ∷ 0 ∷ 0 ∷ 0 ∷ 0 ∷ 0 ∷ 0 ∷ []) ∷ node 33188 1 0 (0 ∷ 0 ∷ 0 ∷ 0 ∷ 0 ∷ 0 ∷ 0 ∷ 0 ∷ 0 ∷ 0 ∷ []) ∷ node 33188 1 0 (0 ∷ 0 ∷ 0 ∷ 0 ∷ 0 ∷ 0 ∷ 0 ∷ 0 ∷ 0 ∷ 0 ∷ []) ∷ node 33188 1 0 (0 ∷ 0 ∷ 0 ∷ 0 ∷ 0 ∷ 0 ∷ 0 ∷ 0 ∷ 0 ∷ 0 ∷ []) ∷ node 33188 1 0 (0 ∷ 0 ∷ 0 ∷ 0 ∷ 0 ∷ 0 ∷ 0 ∷ 0 ∷ 0 ∷ 0 ∷ []) ∷ node 33188 1 0 (0 ∷ 0 ∷ 0 ∷ 0 ∷ 0 ∷ 0 ∷ 0 ∷ 0 ∷ 0 ∷ 0 ∷ []) ∷ node 33188 1 0 (0 ∷ 0 ∷ 0 ∷ 0 ∷ 0 ∷ 0 ∷ 0 ∷ 0 ∷ 0 ∷ 0 ∷ []) ∷ node 33188 1 0 (0 ∷ 0 ∷ 0 ∷ 0 ∷ 0 ∷ 0 ∷ 0 ∷ 0 ∷ 0 ∷ 0 ∷ []) ∷ node 33188 1 0 (0 ∷ 0 ∷ 0 ∷ 0 ∷ 0 ∷ 0 ∷ 0 ∷ 0 ∷ 0 ∷ 0 ∷ []) ∷ node 33188 1 0 (0 ∷ 0 ∷ 0 ∷ 0 ∷ 0 ∷ 0 ∷ 0 ∷ 0 ∷ 0 ∷ 0 ∷ []) ∷ node 33188 1 0 (0 ∷ 0 ∷ 0 ∷ 0 ∷ 0 ∷ 0 ∷ 0 ∷ 0 ∷ 0 ∷ 0 ∷ []) ∷ node 33188 1 0 (0 ∷ 0 ∷ 0 ∷ 0 ∷ 0 ∷ 0 ∷ 0 ∷ 0 ∷ 0 ∷ 0 ∷ []) ∷ node 33188 1 0 (0 ∷ 0 ∷ 0 ∷ 0 ∷ 0 ∷ 0 ∷ 0 ∷ 0 ∷ 0 ∷ 0 ∷ []) ∷ node 33188 1 0 (0 ∷ 0 ∷ 0 ∷ 0 ∷ 0 ∷ 0 ∷ 0 ∷ 0 ∷ 0 ∷ 0 ∷ []) ∷ node 33188 1 0 (0 ∷ 0 ∷ 0 ∷ 0 ∷ 0 ∷ 0 ∷ 0 ∷ 0 ∷ 0 ∷ 0 ∷ []) ∷ node 33188 1 0 (0 ∷ 0 ∷ 0 ∷ 0 ∷ 0 ∷ 0 ∷ 0 ∷ 0 ∷ 0 ∷ 0 ∷ []) ∷ node 33188 1 0 (0 ∷ 0 ∷ 0 ∷ 0 ∷ 0 ∷ 0 ∷ 0 ∷ 0 ∷ 0 ∷ 0 ∷ []) ∷ node 33188 1 0 (0 ∷ 0 ∷ 0 ∷ 0 ∷ 0 ∷ 0 ∷ 0 ∷ 0 ∷ 0 ∷ 0 ∷ []) ∷ node 33188 1 0 (0 ∷ 0 ∷ 0 ∷ 0 ∷ 0 ∷ 0 ∷ 0 ∷ 0 ∷ 0 ∷ 0 ∷ []) ∷ node 33188 1 0 (0 ∷ 0 ∷ 0 ∷ 0 ∷ 0 ∷ 0 ∷ 0 ∷ 0 ∷ 0 ∷ 0 ∷ []) ∷ node 33188 1 0 (0 ∷ 0 ∷ 0 ∷ 0 ∷ 0 ∷ 0 ∷ 0 ∷ 0 ∷ 0 ∷ 0 ∷ []) ∷ node 33188 1 0 (0 ∷ 0 ∷ 0 ∷ 0 ∷ 0 ∷ 0 ∷ 0 ∷ 0 ∷ 0 ∷ 0 ∷ []) ∷ node 33188 1 0 (0 ∷ 0 ∷ 0 ∷ 0 ∷ 0 ∷ 0 ∷ 0 ∷ 0 ∷ 0 ∷ 0 ∷ []) ∷ node 33188 1 0 (0 ∷ 0 ∷ 0 ∷ 0 ∷ 0 ∷ 0 ∷ 0 ∷ 0 ∷ 0 ∷ 0 ∷ []) ∷ []) (zone_with 8 (file 1024 (piece 0 (hex 3 0x01002e) ∷ piece 32 (hex 4 0x01002e2e) ∷ piece 64 (hex 4 0x02006630) ∷ piece 96 (hex 4 0x03006631) ∷ piece 128 (hex 4 0x04006632) ∷ piece 160 (hex 4 0x05006633) ∷ piece 192 (hex 4 0x06006634) ∷ piece 224 (hex 4 0x07006635) ∷ piece 256 (hex 4 0x08006636) ∷ piece 288 (hex 4 0x09006637) ∷ piece 320 (hex 4 0x0a006638) ∷ piece 352 (hex 4 0x0b006639) ∷ piece 384 (hex 5 0x0c00663130) ∷ piece 416 (hex 5 0x0d00663131) ∷ piece 448 (hex 5 0x0e00663132) ∷ piece 480 (hex 5 0x0f00663133) ∷ piece 512 (hex 5 0x1000663134) ∷ piece 544 (hex 5 0x1100663135) ∷ piece 576 (hex 5 0x1200663136) ∷ piece 608 (hex 5 0x1300663137) ∷ piece 640 (hex 5 0x1400663138) ∷ piece 672 (hex 5 0x1500663139) ∷ piece 704 (hex 5 0x1600663230) ∷ piece 736 (hex 5 0x1700663231) ∷ piece 768 (hex 5 0x1800663232) ∷ piece 800 (hex 5 0x1900663233) ∷ piece 832 (hex 5 0x1a00663234) ∷ piece 864 (hex 5 0x1b00663235) ∷ piece 896 (hex 5 0x1c00663236) ∷ piece 928 (hex 5 0x1d00663237) ∷ piece 960 (hex 5 0x1e00663238) ∷ piece 992 (hex 5 0x1f00663239) ∷ [])) ∷ []) (1 ∷ 2 ∷ 3 ∷ 4 ∷ 5 ∷ 6 ∷ 7 ∷ 8 ∷ 9 ∷ 10 ∷ 11 ∷ 12 ∷ 13 ∷ 14 ∷ 15 ∷ 16 ∷ 17 ∷ 18 ∷ 19 ∷ 20 ∷ 21 ∷ 22 ∷ 23 ∷ 24 ∷ 25 ∷ 26 ∷ 27 ∷ 28 ∷ 29 ∷ 30 ∷ 31 ∷ []) (8 ∷ [])) (taken_by (9 ∷ 10 ∷ []) (32 ∷ []) (promise 1 32 (10 ∷ []) ∷ []) []) (wish 1 [] 1 (codes "newer")) ≡ Ok (choice 33 33 (11 ∷ []) (11 ∷ []) [] (10 ∷ []))
unfolding number16 number32 number_in follow pointer_by inside follow_at zone_at block_at entry_of entry_at find_entry data_blocks made_above made_indirect all_entries has_name is_overlooked is_promised new_place way_along missing_on_way promised_zone free_inode left_zones name_check file_need choice_with zones_check choose_blocks choose taken_with branch_of
minix_choose_a_second_file_in_the_zone_that_was_promised_in_version_1_with_long_names = refl

-- a place in a hole of a directory in version 1 with long names
pub minix_choose_a_place_in_a_hole_of_a_directory_in_version_1_with_long_names : choose_on (volume_by (super_with V1Long 16 64 1 1 8) (node 16877 2 3072 (8 ∷ 0 ∷ 9 ∷ 0 ∷ 0 ∷ 0 ∷ 0 ∷ 0 ∷ 0 ∷ 0 ∷ []) ∷ []) (zone_with 8 (file 1024 (piece 0 (hex 3 0x01002e) ∷ piece 32 (hex 4 0x01002e2e) ∷ piece 64 (replicate 960 1) ∷ [])) ∷ zone_with 9 (replicate 1024 1) ∷ []) (1 ∷ []) (8 ∷ 9 ∷ [])) (taken_by [] [] [] []) (wish 1 [] 1 (codes "new")) ≡ Ok (choice 2 32 (10 ∷ 11 ∷ []) (10 ∷ []) [] (11 ∷ []))
unfolding number16 number32 number_in follow pointer_by inside follow_at zone_at block_at entry_of entry_at find_entry data_blocks made_above made_indirect all_entries has_name is_overlooked is_promised new_place way_along missing_on_way promised_zone free_inode left_zones name_check file_need choice_with zones_check choose_blocks choose taken_with branch_of
minix_choose_a_place_in_a_hole_of_a_directory_in_version_1_with_long_names = refl

-- a second place in that hole in version 1 with long names
pub minix_choose_a_second_place_in_that_hole_in_version_1_with_long_names : choose_on (volume_by (super_with V1Long 16 64 1 1 8) (node 16877 2 3072 (8 ∷ 0 ∷ 9 ∷ 0 ∷ 0 ∷ 0 ∷ 0 ∷ 0 ∷ 0 ∷ 0 ∷ []) ∷ []) (zone_with 8 (file 1024 (piece 0 (hex 3 0x01002e) ∷ piece 32 (hex 4 0x01002e2e) ∷ piece 64 (replicate 960 1) ∷ [])) ∷ zone_with 9 (replicate 1024 1) ∷ []) (1 ∷ []) (8 ∷ 9 ∷ [])) (taken_by (10 ∷ 11 ∷ []) (2 ∷ []) (promise 1 32 (11 ∷ []) ∷ []) []) (wish 1 [] 1 (codes "newer")) ≡ Ok (choice 3 33 (12 ∷ []) (12 ∷ []) [] (11 ∷ []))
unfolding number16 number32 number_in follow pointer_by inside follow_at zone_at block_at entry_of entry_at find_entry data_blocks made_above made_indirect all_entries has_name is_overlooked is_promised new_place way_along missing_on_way promised_zone free_inode left_zones name_check file_need choice_with zones_check choose_blocks choose taken_with branch_of
minix_choose_a_second_place_in_that_hole_in_version_1_with_long_names = refl

-- zones kept out in version 1 with long names
pub minix_choose_zones_kept_out_in_version_1_with_long_names : choose_on (volume_by (super_with V1Long 16 64 1 1 8) (node 16877 2 96 (8 ∷ 0 ∷ 0 ∷ 0 ∷ 0 ∷ 0 ∷ 0 ∷ 0 ∷ 0 ∷ 0 ∷ []) ∷ node 33188 1 0 (0 ∷ 0 ∷ 0 ∷ 0 ∷ 0 ∷ 0 ∷ 0 ∷ 0 ∷ 0 ∷ 0 ∷ []) ∷ []) (zone_with 8 (file 1024 (piece 0 (hex 3 0x01002e) ∷ piece 32 (hex 4 0x01002e2e) ∷ piece 64 (hex 3 0x020061) ∷ [])) ∷ []) (1 ∷ 2 ∷ []) (8 ∷ [])) (taken_by (9 ∷ 12 ∷ []) [] [] []) (wish 3000 [] 1 (codes "new")) ≡ Ok (choice 3 3 (10 ∷ 11 ∷ 13 ∷ []) (10 ∷ 11 ∷ 13 ∷ []) [] [])
unfolding number16 number32 number_in follow pointer_by inside follow_at zone_at block_at entry_of entry_at find_entry data_blocks made_above made_indirect all_entries has_name is_overlooked is_promised new_place way_along missing_on_way promised_zone free_inode left_zones name_check file_need choice_with zones_check choose_blocks choose taken_with branch_of
minix_choose_zones_kept_out_in_version_1_with_long_names = refl

-- what was promised is kept out in version 1 with long names
pub minix_choose_what_was_promised_is_kept_out_in_version_1_with_long_names : choose_on (volume_by (super_with V1Long 16 64 1 1 8) (node 16877 2 96 (8 ∷ 0 ∷ 0 ∷ 0 ∷ 0 ∷ 0 ∷ 0 ∷ 0 ∷ 0 ∷ 0 ∷ []) ∷ node 33188 1 0 (0 ∷ 0 ∷ 0 ∷ 0 ∷ 0 ∷ 0 ∷ 0 ∷ 0 ∷ 0 ∷ 0 ∷ []) ∷ []) (zone_with 8 (file 1024 (piece 0 (hex 3 0x01002e) ∷ piece 32 (hex 4 0x01002e2e) ∷ piece 64 (hex 3 0x020061) ∷ [])) ∷ []) (1 ∷ 2 ∷ []) (8 ∷ [])) (taken_by (9 ∷ 10 ∷ 11 ∷ 12 ∷ 13 ∷ []) (3 ∷ []) (promise 1 3 [] ∷ []) []) (wish 2000 [] 1 (codes "newer")) ≡ Ok (choice 4 4 (14 ∷ 15 ∷ []) (14 ∷ 15 ∷ []) [] [])
unfolding number16 number32 number_in follow pointer_by inside follow_at zone_at block_at entry_of entry_at find_entry data_blocks made_above made_indirect all_entries has_name is_overlooked is_promised new_place way_along missing_on_way promised_zone free_inode left_zones name_check file_need choice_with zones_check choose_blocks choose taken_with branch_of
minix_choose_what_was_promised_is_kept_out_in_version_1_with_long_names = refl

-- a name that is overlooked in version 1 with long names
pub minix_choose_a_name_that_is_overlooked_in_version_1_with_long_names : choose_on (volume_by (super_with V1Long 16 64 1 1 8) (node 16877 2 96 (8 ∷ 0 ∷ 0 ∷ 0 ∷ 0 ∷ 0 ∷ 0 ∷ 0 ∷ 0 ∷ 0 ∷ []) ∷ node 33188 1 0 (0 ∷ 0 ∷ 0 ∷ 0 ∷ 0 ∷ 0 ∷ 0 ∷ 0 ∷ 0 ∷ 0 ∷ []) ∷ []) (zone_with 8 (file 1024 (piece 0 (hex 3 0x01002e) ∷ piece 32 (hex 4 0x01002e2e) ∷ piece 64 (hex 3 0x020061) ∷ [])) ∷ []) (1 ∷ 2 ∷ []) (8 ∷ [])) (taken_by [] [] [] (overlook 1 (codes "a") ∷ [])) (wish 10 [] 1 (codes "a")) ≡ Ok (choice 3 3 (9 ∷ []) (9 ∷ []) [] [])
unfolding number16 number32 number_in follow pointer_by inside follow_at zone_at block_at entry_of entry_at find_entry data_blocks made_above made_indirect all_entries has_name is_overlooked is_promised new_place way_along missing_on_way promised_zone free_inode left_zones name_check file_need choice_with zones_check choose_blocks choose taken_with branch_of
minix_choose_a_name_that_is_overlooked_in_version_1_with_long_names = refl

-- a name overlooked elsewhere in version 1 with long names
pub minix_choose_a_name_overlooked_elsewhere_in_version_1_with_long_names : choose_on (volume_by (super_with V1Long 16 64 1 1 8) (node 16877 2 96 (8 ∷ 0 ∷ 0 ∷ 0 ∷ 0 ∷ 0 ∷ 0 ∷ 0 ∷ 0 ∷ 0 ∷ []) ∷ node 33188 1 0 (0 ∷ 0 ∷ 0 ∷ 0 ∷ 0 ∷ 0 ∷ 0 ∷ 0 ∷ 0 ∷ 0 ∷ []) ∷ []) (zone_with 8 (file 1024 (piece 0 (hex 3 0x01002e) ∷ piece 32 (hex 4 0x01002e2e) ∷ piece 64 (hex 3 0x020061) ∷ [])) ∷ []) (1 ∷ 2 ∷ []) (8 ∷ [])) (taken_by [] [] [] (overlook 2 (codes "a") ∷ overlook 1 (codes "A") ∷ [])) (wish 10 [] 1 (codes "a")) ≡ Err Exists
unfolding number16 number32 number_in follow pointer_by inside follow_at zone_at block_at entry_of entry_at find_entry data_blocks made_above made_indirect all_entries has_name is_overlooked is_promised new_place way_along missing_on_way promised_zone free_inode left_zones name_check file_need choice_with zones_check choose_blocks choose taken_with branch_of
minix_choose_a_name_overlooked_elsewhere_in_version_1_with_long_names = refl

-- a file of 3000 bytes in version 2 with short names
pub minix_choose_a_file_of_3000_bytes_in_version_2_with_short_names : choose_on (volume_by (super_with V2Short 16 64 1 1 8) (node 16877 2 80 (8 ∷ 0 ∷ 0 ∷ 0 ∷ 0 ∷ 0 ∷ 0 ∷ 0 ∷ 0 ∷ 0 ∷ []) ∷ node 33188 1 0 (0 ∷ 0 ∷ 0 ∷ 0 ∷ 0 ∷ 0 ∷ 0 ∷ 0 ∷ 0 ∷ 0 ∷ []) ∷ node 33188 1 0 (0 ∷ 0 ∷ 0 ∷ 0 ∷ 0 ∷ 0 ∷ 0 ∷ 0 ∷ 0 ∷ 0 ∷ []) ∷ []) (zone_with 8 (file 1024 (piece 0 (hex 3 0x01002e) ∷ piece 16 (hex 4 0x01002e2e) ∷ piece 32 (hex 3 0x020061) ∷ piece 64 (hex 3 0x030062) ∷ [])) ∷ []) (1 ∷ 2 ∷ 3 ∷ []) (8 ∷ [])) (taken_by [] [] [] []) (wish 3000 [] 1 (codes "new")) ≡ Ok (choice 4 3 (9 ∷ 10 ∷ 11 ∷ []) (9 ∷ 10 ∷ 11 ∷ []) [] [])
unfolding number16 number32 number_in follow pointer_by inside follow_at zone_at block_at entry_of entry_at find_entry data_blocks made_above made_indirect all_entries has_name is_overlooked is_promised new_place way_along missing_on_way promised_zone free_inode left_zones name_check file_need choice_with zones_check choose_blocks choose taken_with branch_of
minix_choose_a_file_of_3000_bytes_in_version_2_with_short_names = refl

-- a file of no bytes in version 2 with short names
pub minix_choose_a_file_of_no_bytes_in_version_2_with_short_names : choose_on (volume_by (super_with V2Short 16 64 1 1 8) (node 16877 2 80 (8 ∷ 0 ∷ 0 ∷ 0 ∷ 0 ∷ 0 ∷ 0 ∷ 0 ∷ 0 ∷ 0 ∷ []) ∷ node 33188 1 0 (0 ∷ 0 ∷ 0 ∷ 0 ∷ 0 ∷ 0 ∷ 0 ∷ 0 ∷ 0 ∷ 0 ∷ []) ∷ node 33188 1 0 (0 ∷ 0 ∷ 0 ∷ 0 ∷ 0 ∷ 0 ∷ 0 ∷ 0 ∷ 0 ∷ 0 ∷ []) ∷ []) (zone_with 8 (file 1024 (piece 0 (hex 3 0x01002e) ∷ piece 16 (hex 4 0x01002e2e) ∷ piece 32 (hex 3 0x020061) ∷ piece 64 (hex 3 0x030062) ∷ [])) ∷ []) (1 ∷ 2 ∷ 3 ∷ []) (8 ∷ [])) (taken_by [] [] [] []) (wish 0 [] 1 (codes "new")) ≡ Ok (choice 4 3 [] [] [] [])
unfolding number16 number32 number_in follow pointer_by inside follow_at zone_at block_at entry_of entry_at find_entry data_blocks made_above made_indirect all_entries has_name is_overlooked is_promised new_place way_along missing_on_way promised_zone free_inode left_zones name_check file_need choice_with zones_check choose_blocks choose taken_with branch_of
minix_choose_a_file_of_no_bytes_in_version_2_with_short_names = refl

-- a hole in version 2 with short names
pub minix_choose_a_hole_in_version_2_with_short_names : choose_on (volume_by (super_with V2Short 16 64 1 1 8) (node 16877 2 80 (8 ∷ 0 ∷ 0 ∷ 0 ∷ 0 ∷ 0 ∷ 0 ∷ 0 ∷ 0 ∷ 0 ∷ []) ∷ node 33188 1 0 (0 ∷ 0 ∷ 0 ∷ 0 ∷ 0 ∷ 0 ∷ 0 ∷ 0 ∷ 0 ∷ 0 ∷ []) ∷ node 33188 1 0 (0 ∷ 0 ∷ 0 ∷ 0 ∷ 0 ∷ 0 ∷ 0 ∷ 0 ∷ 0 ∷ 0 ∷ []) ∷ []) (zone_with 8 (file 1024 (piece 0 (hex 3 0x01002e) ∷ piece 16 (hex 4 0x01002e2e) ∷ piece 32 (hex 3 0x020061) ∷ piece 64 (hex 3 0x030062) ∷ [])) ∷ []) (1 ∷ 2 ∷ 3 ∷ []) (8 ∷ [])) (taken_by [] [] [] []) (wish 5000 (1 ∷ 3 ∷ []) 1 (codes "new")) ≡ Ok (choice 4 3 (9 ∷ 10 ∷ 11 ∷ []) (9 ∷ 0 ∷ 10 ∷ 0 ∷ 11 ∷ []) [] [])
unfolding number16 number32 number_in follow pointer_by inside follow_at zone_at block_at entry_of entry_at find_entry data_blocks made_above made_indirect all_entries has_name is_overlooked is_promised new_place way_along missing_on_way promised_zone free_inode left_zones name_check file_need choice_with zones_check choose_blocks choose taken_with branch_of
minix_choose_a_hole_in_version_2_with_short_names = refl

-- all holes in version 2 with short names
pub minix_choose_all_holes_in_version_2_with_short_names : choose_on (volume_by (super_with V2Short 16 64 1 1 8) (node 16877 2 80 (8 ∷ 0 ∷ 0 ∷ 0 ∷ 0 ∷ 0 ∷ 0 ∷ 0 ∷ 0 ∷ 0 ∷ []) ∷ node 33188 1 0 (0 ∷ 0 ∷ 0 ∷ 0 ∷ 0 ∷ 0 ∷ 0 ∷ 0 ∷ 0 ∷ 0 ∷ []) ∷ node 33188 1 0 (0 ∷ 0 ∷ 0 ∷ 0 ∷ 0 ∷ 0 ∷ 0 ∷ 0 ∷ 0 ∷ 0 ∷ []) ∷ []) (zone_with 8 (file 1024 (piece 0 (hex 3 0x01002e) ∷ piece 16 (hex 4 0x01002e2e) ∷ piece 32 (hex 3 0x020061) ∷ piece 64 (hex 3 0x030062) ∷ [])) ∷ []) (1 ∷ 2 ∷ 3 ∷ []) (8 ∷ [])) (taken_by [] [] [] []) (wish 3072 (0 ∷ 1 ∷ 2 ∷ []) 1 (codes "new")) ≡ Ok (choice 4 3 [] (0 ∷ 0 ∷ 0 ∷ []) [] [])
unfolding number16 number32 number_in follow pointer_by inside follow_at zone_at block_at entry_of entry_at find_entry data_blocks made_above made_indirect all_entries has_name is_overlooked is_promised new_place way_along missing_on_way promised_zone free_inode left_zones name_check file_need choice_with zones_check choose_blocks choose taken_with branch_of
minix_choose_all_holes_in_version_2_with_short_names = refl

-- a name that is there in version 2 with short names
pub minix_choose_a_name_that_is_there_in_version_2_with_short_names : choose_on (volume_by (super_with V2Short 16 64 1 1 8) (node 16877 2 80 (8 ∷ 0 ∷ 0 ∷ 0 ∷ 0 ∷ 0 ∷ 0 ∷ 0 ∷ 0 ∷ 0 ∷ []) ∷ node 33188 1 0 (0 ∷ 0 ∷ 0 ∷ 0 ∷ 0 ∷ 0 ∷ 0 ∷ 0 ∷ 0 ∷ 0 ∷ []) ∷ node 33188 1 0 (0 ∷ 0 ∷ 0 ∷ 0 ∷ 0 ∷ 0 ∷ 0 ∷ 0 ∷ 0 ∷ 0 ∷ []) ∷ []) (zone_with 8 (file 1024 (piece 0 (hex 3 0x01002e) ∷ piece 16 (hex 4 0x01002e2e) ∷ piece 32 (hex 3 0x020061) ∷ piece 64 (hex 3 0x030062) ∷ [])) ∷ []) (1 ∷ 2 ∷ 3 ∷ []) (8 ∷ [])) (taken_by [] [] [] []) (wish 10 [] 1 (codes "b")) ≡ Err Exists
unfolding number16 number32 number_in follow pointer_by inside follow_at zone_at block_at entry_of entry_at find_entry data_blocks made_above made_indirect all_entries has_name is_overlooked is_promised new_place way_along missing_on_way promised_zone free_inode left_zones name_check file_need choice_with zones_check choose_blocks choose taken_with branch_of
minix_choose_a_name_that_is_there_in_version_2_with_short_names = refl

-- a name of the room of version 2 with short names
pub minix_choose_a_name_of_the_room_of_version_2_with_short_names : choose_on (volume_by (super_with V2Short 16 64 1 1 8) (node 16877 2 80 (8 ∷ 0 ∷ 0 ∷ 0 ∷ 0 ∷ 0 ∷ 0 ∷ 0 ∷ 0 ∷ 0 ∷ []) ∷ node 33188 1 0 (0 ∷ 0 ∷ 0 ∷ 0 ∷ 0 ∷ 0 ∷ 0 ∷ 0 ∷ 0 ∷ 0 ∷ []) ∷ node 33188 1 0 (0 ∷ 0 ∷ 0 ∷ 0 ∷ 0 ∷ 0 ∷ 0 ∷ 0 ∷ 0 ∷ 0 ∷ []) ∷ []) (zone_with 8 (file 1024 (piece 0 (hex 3 0x01002e) ∷ piece 16 (hex 4 0x01002e2e) ∷ piece 32 (hex 3 0x020061) ∷ piece 64 (hex 3 0x030062) ∷ [])) ∷ []) (1 ∷ 2 ∷ 3 ∷ []) (8 ∷ [])) (taken_by [] [] [] []) (wish 1 [] 1 (replicate 14 110)) ≡ Ok (choice 4 3 (9 ∷ []) (9 ∷ []) [] [])
unfolding number16 number32 number_in follow pointer_by inside follow_at zone_at block_at entry_of entry_at find_entry data_blocks made_above made_indirect all_entries has_name is_overlooked is_promised new_place way_along missing_on_way promised_zone free_inode left_zones name_check file_need choice_with zones_check choose_blocks choose taken_with branch_of
minix_choose_a_name_of_the_room_of_version_2_with_short_names = refl

-- a name too long for version 2 with short names
pub minix_choose_a_name_too_long_for_version_2_with_short_names : choose_on (volume_by (super_with V2Short 16 64 1 1 8) (node 16877 2 80 (8 ∷ 0 ∷ 0 ∷ 0 ∷ 0 ∷ 0 ∷ 0 ∷ 0 ∷ 0 ∷ 0 ∷ []) ∷ node 33188 1 0 (0 ∷ 0 ∷ 0 ∷ 0 ∷ 0 ∷ 0 ∷ 0 ∷ 0 ∷ 0 ∷ 0 ∷ []) ∷ node 33188 1 0 (0 ∷ 0 ∷ 0 ∷ 0 ∷ 0 ∷ 0 ∷ 0 ∷ 0 ∷ 0 ∷ 0 ∷ []) ∷ []) (zone_with 8 (file 1024 (piece 0 (hex 3 0x01002e) ∷ piece 16 (hex 4 0x01002e2e) ∷ piece 32 (hex 3 0x020061) ∷ piece 64 (hex 3 0x030062) ∷ [])) ∷ []) (1 ∷ 2 ∷ 3 ∷ []) (8 ∷ [])) (taken_by [] [] [] []) (wish 1 [] 1 (replicate 15 110)) ≡ Err NameTooLong
unfolding number16 number32 number_in follow pointer_by inside follow_at zone_at block_at entry_of entry_at find_entry data_blocks made_above made_indirect all_entries has_name is_overlooked is_promised new_place way_along missing_on_way promised_zone free_inode left_zones name_check file_need choice_with zones_check choose_blocks choose taken_with branch_of
minix_choose_a_name_too_long_for_version_2_with_short_names = refl

-- a name that begins one that is there in version 2 with short names
pub minix_choose_a_name_that_begins_one_that_is_there_in_version_2_with_short_names : choose_on (volume_by (super_with V2Short 16 64 1 1 8) (node 16877 2 48 (8 ∷ 0 ∷ 0 ∷ 0 ∷ 0 ∷ 0 ∷ 0 ∷ 0 ∷ 0 ∷ 0 ∷ []) ∷ node 33188 1 0 (0 ∷ 0 ∷ 0 ∷ 0 ∷ 0 ∷ 0 ∷ 0 ∷ 0 ∷ 0 ∷ 0 ∷ []) ∷ []) (zone_with 8 (file 1024 (piece 0 (hex 3 0x01002e) ∷ piece 16 (hex 4 0x01002e2e) ∷ piece 32 (hex 4 0x02006162) ∷ [])) ∷ []) (1 ∷ 2 ∷ []) (8 ∷ [])) (taken_by [] [] [] []) (wish 1 [] 1 (codes "a")) ≡ Ok (choice 3 3 (9 ∷ []) (9 ∷ []) [] [])
unfolding number16 number32 number_in follow pointer_by inside follow_at zone_at block_at entry_of entry_at find_entry data_blocks made_above made_indirect all_entries has_name is_overlooked is_promised new_place way_along missing_on_way promised_zone free_inode left_zones name_check file_need choice_with zones_check choose_blocks choose taken_with branch_of
minix_choose_a_name_that_begins_one_that_is_there_in_version_2_with_short_names = refl

-- seven blocks in version 2 with short names
pub minix_choose_seven_blocks_in_version_2_with_short_names : choose_on (volume_by (super_with V2Short 16 64 1 1 8) (node 16877 2 80 (8 ∷ 0 ∷ 0 ∷ 0 ∷ 0 ∷ 0 ∷ 0 ∷ 0 ∷ 0 ∷ 0 ∷ []) ∷ node 33188 1 0 (0 ∷ 0 ∷ 0 ∷ 0 ∷ 0 ∷ 0 ∷ 0 ∷ 0 ∷ 0 ∷ 0 ∷ []) ∷ node 33188 1 0 (0 ∷ 0 ∷ 0 ∷ 0 ∷ 0 ∷ 0 ∷ 0 ∷ 0 ∷ 0 ∷ 0 ∷ []) ∷ []) (zone_with 8 (file 1024 (piece 0 (hex 3 0x01002e) ∷ piece 16 (hex 4 0x01002e2e) ∷ piece 32 (hex 3 0x020061) ∷ piece 64 (hex 3 0x030062) ∷ [])) ∷ []) (1 ∷ 2 ∷ 3 ∷ []) (8 ∷ [])) (taken_by [] [] [] []) (wish 7168 [] 1 (codes "new")) ≡ Ok (choice 4 3 (up_from 9 7) (up_from 9 7) [] [])
unfolding number16 number32 number_in follow pointer_by inside follow_at zone_at block_at entry_of entry_at find_entry data_blocks made_above made_indirect all_entries has_name is_overlooked is_promised new_place way_along missing_on_way promised_zone free_inode left_zones name_check file_need choice_with zones_check choose_blocks choose taken_with branch_of
minix_choose_seven_blocks_in_version_2_with_short_names = refl

-- eight blocks in version 2 with short names
pub minix_choose_eight_blocks_in_version_2_with_short_names : choose_on (volume_by (super_with V2Short 16 64 1 1 8) (node 16877 2 80 (8 ∷ 0 ∷ 0 ∷ 0 ∷ 0 ∷ 0 ∷ 0 ∷ 0 ∷ 0 ∷ 0 ∷ []) ∷ node 33188 1 0 (0 ∷ 0 ∷ 0 ∷ 0 ∷ 0 ∷ 0 ∷ 0 ∷ 0 ∷ 0 ∷ 0 ∷ []) ∷ node 33188 1 0 (0 ∷ 0 ∷ 0 ∷ 0 ∷ 0 ∷ 0 ∷ 0 ∷ 0 ∷ 0 ∷ 0 ∷ []) ∷ []) (zone_with 8 (file 1024 (piece 0 (hex 3 0x01002e) ∷ piece 16 (hex 4 0x01002e2e) ∷ piece 32 (hex 3 0x020061) ∷ piece 64 (hex 3 0x030062) ∷ [])) ∷ []) (1 ∷ 2 ∷ 3 ∷ []) (8 ∷ [])) (taken_by [] [] [] []) (wish 7169 [] 1 (codes "new")) ≡ Ok (choice 4 3 (up_from 9 9) (up_from 9 8) (17 ∷ []) [])
unfolding number16 number32 number_in follow pointer_by inside follow_at zone_at block_at entry_of entry_at find_entry data_blocks made_above made_indirect all_entries has_name is_overlooked is_promised new_place way_along missing_on_way promised_zone free_inode left_zones name_check file_need choice_with zones_check choose_blocks choose taken_with branch_of
minix_choose_eight_blocks_in_version_2_with_short_names = refl

-- eight blocks of which the eighth is a hole in version 2 with short names
pub minix_choose_eight_blocks_of_which_the_eighth_is_a_hole_in_version_2_with_short_names : choose_on (volume_by (super_with V2Short 16 64 1 1 8) (node 16877 2 80 (8 ∷ 0 ∷ 0 ∷ 0 ∷ 0 ∷ 0 ∷ 0 ∷ 0 ∷ 0 ∷ 0 ∷ []) ∷ node 33188 1 0 (0 ∷ 0 ∷ 0 ∷ 0 ∷ 0 ∷ 0 ∷ 0 ∷ 0 ∷ 0 ∷ 0 ∷ []) ∷ node 33188 1 0 (0 ∷ 0 ∷ 0 ∷ 0 ∷ 0 ∷ 0 ∷ 0 ∷ 0 ∷ 0 ∷ 0 ∷ []) ∷ []) (zone_with 8 (file 1024 (piece 0 (hex 3 0x01002e) ∷ piece 16 (hex 4 0x01002e2e) ∷ piece 32 (hex 3 0x020061) ∷ piece 64 (hex 3 0x030062) ∷ [])) ∷ []) (1 ∷ 2 ∷ 3 ∷ []) (8 ∷ [])) (taken_by [] [] [] []) (wish 8192 (7 ∷ []) 1 (codes "new")) ≡ Ok (choice 4 3 (up_from 9 7) (up_from 9 7 ++ ((0 ∷ []))) (0 ∷ []) [])
unfolding number16 number32 number_in follow pointer_by inside follow_at zone_at block_at entry_of entry_at find_entry data_blocks made_above made_indirect all_entries has_name is_overlooked is_promised new_place way_along missing_on_way promised_zone free_inode left_zones name_check file_need choice_with zones_check choose_blocks choose taken_with branch_of
minix_choose_eight_blocks_of_which_the_eighth_is_a_hole_in_version_2_with_short_names = refl

-- no inode in version 2 with short names
pub minix_choose_no_inode_in_version_2_with_short_names : choose_on (volume_by (super_with V2Short 4 64 1 1 8) (node 16877 2 64 (8 ∷ 0 ∷ 0 ∷ 0 ∷ 0 ∷ 0 ∷ 0 ∷ 0 ∷ 0 ∷ 0 ∷ []) ∷ node 33188 1 0 (0 ∷ 0 ∷ 0 ∷ 0 ∷ 0 ∷ 0 ∷ 0 ∷ 0 ∷ 0 ∷ 0 ∷ []) ∷ node 33188 1 0 (0 ∷ 0 ∷ 0 ∷ 0 ∷ 0 ∷ 0 ∷ 0 ∷ 0 ∷ 0 ∷ 0 ∷ []) ∷ []) (zone_with 8 (file 1024 (piece 0 (hex 3 0x01002e) ∷ piece 16 (hex 4 0x01002e2e) ∷ piece 32 (hex 3 0x020061) ∷ piece 48 (hex 3 0x030062) ∷ [])) ∷ []) (1 ∷ 2 ∷ 3 ∷ 4 ∷ []) (8 ∷ [])) (taken_by [] [] [] []) (wish 10 [] 1 (codes "new")) ≡ Err NoInode
unfolding number16 number32 number_in follow pointer_by inside follow_at zone_at block_at entry_of entry_at find_entry data_blocks made_above made_indirect all_entries has_name is_overlooked is_promised new_place way_along missing_on_way promised_zone free_inode left_zones name_check file_need choice_with zones_check choose_blocks choose taken_with branch_of
minix_choose_no_inode_in_version_2_with_short_names = refl

-- no inode for a name that is there in version 2 with short names
pub minix_choose_no_inode_for_a_name_that_is_there_in_version_2_with_short_names : choose_on (volume_by (super_with V2Short 4 64 1 1 8) (node 16877 2 64 (8 ∷ 0 ∷ 0 ∷ 0 ∷ 0 ∷ 0 ∷ 0 ∷ 0 ∷ 0 ∷ 0 ∷ []) ∷ node 33188 1 0 (0 ∷ 0 ∷ 0 ∷ 0 ∷ 0 ∷ 0 ∷ 0 ∷ 0 ∷ 0 ∷ 0 ∷ []) ∷ node 33188 1 0 (0 ∷ 0 ∷ 0 ∷ 0 ∷ 0 ∷ 0 ∷ 0 ∷ 0 ∷ 0 ∷ 0 ∷ []) ∷ []) (zone_with 8 (file 1024 (piece 0 (hex 3 0x01002e) ∷ piece 16 (hex 4 0x01002e2e) ∷ piece 32 (hex 3 0x020061) ∷ piece 48 (hex 3 0x030062) ∷ [])) ∷ []) (1 ∷ 2 ∷ 3 ∷ 4 ∷ []) (8 ∷ [])) (taken_by [] [] [] []) (wish 10 [] 1 (codes "a")) ≡ Err Exists
unfolding number16 number32 number_in follow pointer_by inside follow_at zone_at block_at entry_of entry_at find_entry data_blocks made_above made_indirect all_entries has_name is_overlooked is_promised new_place way_along missing_on_way promised_zone free_inode left_zones name_check file_need choice_with zones_check choose_blocks choose taken_with branch_of
minix_choose_no_inode_for_a_name_that_is_there_in_version_2_with_short_names = refl

-- bits without a use in version 2 with short names
pub minix_choose_bits_without_a_use_in_version_2_with_short_names : choose_on (volume_by (super_with V2Short 16 64 1 1 8) (node 16877 2 48 (8 ∷ 0 ∷ 0 ∷ 0 ∷ 0 ∷ 0 ∷ 0 ∷ 0 ∷ 0 ∷ 0 ∷ []) ∷ node 33188 1 0 (0 ∷ 0 ∷ 0 ∷ 0 ∷ 0 ∷ 0 ∷ 0 ∷ 0 ∷ 0 ∷ 0 ∷ []) ∷ []) (zone_with 8 (file 1024 (piece 0 (hex 3 0x01002e) ∷ piece 16 (hex 4 0x01002e2e) ∷ piece 32 (hex 3 0x020061) ∷ [])) ∷ []) (1 ∷ 2 ∷ 3 ∷ 5 ∷ []) (8 ∷ 9 ∷ 11 ∷ 12 ∷ [])) (taken_by [] [] [] []) (wish 3000 [] 1 (codes "new")) ≡ Ok (choice 4 3 (10 ∷ 13 ∷ 14 ∷ []) (10 ∷ 13 ∷ 14 ∷ []) [] [])
unfolding number16 number32 number_in follow pointer_by inside follow_at zone_at block_at entry_of entry_at find_entry data_blocks made_above made_indirect all_entries has_name is_overlooked is_promised new_place way_along missing_on_way promised_zone free_inode left_zones name_check file_need choice_with zones_check choose_blocks choose taken_with branch_of
minix_choose_bits_without_a_use_in_version_2_with_short_names = refl

-- two zones for three blocks in version 2 with short names
pub minix_choose_two_zones_for_three_blocks_in_version_2_with_short_names : choose_on (volume_by (super_with V2Short 16 11 1 1 8) (node 16877 2 32 (8 ∷ 0 ∷ 0 ∷ 0 ∷ 0 ∷ 0 ∷ 0 ∷ 0 ∷ 0 ∷ 0 ∷ []) ∷ []) (zone_with 8 (file 1024 (piece 0 (hex 3 0x01002e) ∷ piece 16 (hex 4 0x01002e2e) ∷ [])) ∷ []) (1 ∷ []) (8 ∷ [])) (taken_by [] [] [] []) (wish 3000 [] 1 (codes "new")) ≡ Err (NoSpace 3 2)
unfolding number16 number32 number_in follow pointer_by inside follow_at zone_at block_at entry_of entry_at find_entry data_blocks made_above made_indirect all_entries has_name is_overlooked is_promised new_place way_along missing_on_way promised_zone free_inode left_zones name_check file_need choice_with zones_check choose_blocks choose taken_with branch_of
minix_choose_two_zones_for_three_blocks_in_version_2_with_short_names = refl

-- two zones for two blocks in version 2 with short names
pub minix_choose_two_zones_for_two_blocks_in_version_2_with_short_names : choose_on (volume_by (super_with V2Short 16 11 1 1 8) (node 16877 2 32 (8 ∷ 0 ∷ 0 ∷ 0 ∷ 0 ∷ 0 ∷ 0 ∷ 0 ∷ 0 ∷ 0 ∷ []) ∷ []) (zone_with 8 (file 1024 (piece 0 (hex 3 0x01002e) ∷ piece 16 (hex 4 0x01002e2e) ∷ [])) ∷ []) (1 ∷ []) (8 ∷ [])) (taken_by [] [] [] []) (wish 2048 [] 1 (codes "new")) ≡ Ok (choice 2 2 (9 ∷ 10 ∷ []) (9 ∷ 10 ∷ []) [] [])
unfolding number16 number32 number_in follow pointer_by inside follow_at zone_at block_at entry_of entry_at find_entry data_blocks made_above made_indirect all_entries has_name is_overlooked is_promised new_place way_along missing_on_way promised_zone free_inode left_zones name_check file_need choice_with zones_check choose_blocks choose taken_with branch_of
minix_choose_two_zones_for_two_blocks_in_version_2_with_short_names = refl

-- a zone too few for the indirect one in version 2 with short names
pub minix_choose_a_zone_too_few_for_the_indirect_one_in_version_2_with_short_names : choose_on (volume_by (super_with V2Short 16 17 1 1 8) (node 16877 2 32 (8 ∷ 0 ∷ 0 ∷ 0 ∷ 0 ∷ 0 ∷ 0 ∷ 0 ∷ 0 ∷ 0 ∷ []) ∷ []) (zone_with 8 (file 1024 (piece 0 (hex 3 0x01002e) ∷ piece 16 (hex 4 0x01002e2e) ∷ [])) ∷ []) (1 ∷ []) (8 ∷ [])) (taken_by [] [] [] []) (wish 8192 [] 1 (codes "new")) ≡ Err (NoSpace 9 8)
unfolding number16 number32 number_in follow pointer_by inside follow_at zone_at block_at entry_of entry_at find_entry data_blocks made_above made_indirect all_entries has_name is_overlooked is_promised new_place way_along missing_on_way promised_zone free_inode left_zones name_check file_need choice_with zones_check choose_blocks choose taken_with branch_of
minix_choose_a_zone_too_few_for_the_indirect_one_in_version_2_with_short_names = refl

-- growth where the zone is there in version 2 with short names
pub minix_choose_growth_where_the_zone_is_there_in_version_2_with_short_names : choose_on (volume_by (super_with V2Short 16 64 1 1 8) (node 16877 2 32 (8 ∷ 0 ∷ 0 ∷ 0 ∷ 0 ∷ 0 ∷ 0 ∷ 0 ∷ 0 ∷ 0 ∷ []) ∷ []) (zone_with 8 (file 1024 (piece 0 (hex 3 0x01002e) ∷ piece 16 (hex 4 0x01002e2e) ∷ [])) ∷ []) (1 ∷ []) (8 ∷ [])) (taken_by [] [] [] []) (wish 1 [] 1 (codes "new")) ≡ Ok (choice 2 2 (9 ∷ []) (9 ∷ []) [] [])
unfolding number16 number32 number_in follow pointer_by inside follow_at zone_at block_at entry_of entry_at find_entry data_blocks made_above made_indirect all_entries has_name is_overlooked is_promised new_place way_along missing_on_way promised_zone free_inode left_zones name_check file_need choice_with zones_check choose_blocks choose taken_with branch_of
minix_choose_growth_where_the_zone_is_there_in_version_2_with_short_names = refl

-- growth by a zone in version 2 with short names
pub minix_choose_growth_by_a_zone_in_version_2_with_short_names : choose_on (volume_by (super_with V2Short 80 64 1 1 8) (node 16877 2 1024 (8 ∷ 0 ∷ 0 ∷ 0 ∷ 0 ∷ 0 ∷ 0 ∷ 0 ∷ 0 ∷ 0 ∷ []) ∷ node 33188 1 0 (0 ∷ 0 ∷ 0 ∷ 0 ∷ 0 ∷ 0 ∷ 0 ∷ 0 ∷ 0 ∷ 0 ∷ []) ∷ node 33188 1 0 (0 ∷ 0 ∷ 0 ∷ 0 ∷ 0 ∷ 0 ∷ 0 ∷ 0 ∷ 0 ∷ 0 ∷ []) ∷ node 33188 1 0 (0 ∷ 0 ∷ 0 ∷ 0 ∷ 0 ∷ 0 ∷ 0 ∷ 0 ∷ 0 ∷ 0 ∷ []) ∷ node 33188 1 0 (0 ∷ 0 ∷ 0 ∷ 0 ∷ 0 ∷ 0 ∷ 0 ∷ 0 ∷ 0 ∷ 0 ∷ []) ∷ node 33188 1 0 (0 ∷ 0 ∷ 0 ∷ 0 ∷ 0 ∷ 0 ∷ 0 ∷ 0 ∷ 0 ∷ 0 ∷ []) ∷ node 33188 1 0 (0 ∷ 0 ∷ 0 ∷ 0 ∷ 0 ∷ 0 ∷ 0 ∷ 0 ∷ 0 ∷ 0 ∷ []) ∷ node 33188 1 0 (0 ∷ 0 ∷ 0 ∷ 0 ∷ 0 ∷ 0 ∷ 0 ∷ 0 ∷ 0 ∷ 0 ∷ []) ∷ node 33188 1 0 (0 ∷ 0 ∷ 0 ∷ 0 ∷ 0 ∷ 0 ∷ 0 ∷ 0 ∷ 0 ∷ 0 ∷ []) ∷ node 33188 1 0 (0 ∷ 0 ∷ 0 ∷ 0 ∷ 0 ∷ 0 ∷ 0 ∷ 0 ∷ 0 ∷ 0 ∷ []) ∷ node 33188 1 0 (0 ∷ 0 ∷ 0 ∷ 0 ∷ 0 ∷ 0 ∷ 0 ∷ 0 ∷ 0 ∷ 0 ∷ []) ∷ node 33188 1 0 (0 ∷ 0 ∷ 0 ∷ 0 ∷ 0 ∷ 0 ∷ 0 ∷ 0 ∷ 0 ∷ 0 ∷ []) ∷ node 33188 1 0 (0 ∷ 0 ∷ 0 ∷ 0 ∷ 0 ∷ 0 ∷ 0 ∷ 0 ∷ 0 ∷ 0 ∷ []) ∷ node 33188 1 0 (0 ∷ 0 ∷ 0 ∷ 0 ∷ 0 ∷ 0 ∷ 0 ∷ 0 ∷ 0 ∷ 0 ∷ []) ∷ node 33188 1 0 (0 ∷ 0 ∷ 0 ∷ 0 ∷ 0 ∷ 0 ∷ 0 ∷ 0 ∷ 0 ∷ 0 ∷ []) ∷ node 33188 1 0 (0 ∷ 0 ∷ 0 ∷ 0 ∷ 0 ∷ 0 ∷ 0 ∷ 0 ∷ 0 ∷ 0 ∷ []) ∷ node 33188 1 0 (0 ∷ 0 ∷ 0 ∷ 0 ∷ 0 ∷ 0 ∷ 0 ∷ 0 ∷ 0 ∷ 0 ∷ []) ∷ node 33188 1 0 (0 ∷ 0 ∷ 0 ∷ 0 ∷ 0 ∷ 0 ∷ 0 ∷ 0 ∷ 0 ∷ 0 ∷ []) ∷ node 33188 1 0 (0 ∷ 0 ∷ 0 ∷ 0 ∷ 0 ∷ 0 ∷ 0 ∷ 0 ∷ 0 ∷ 0 ∷ []) ∷ node 33188 1 0 (0 ∷ 0 ∷ 0 ∷ 0 ∷ 0 ∷ 0 ∷ 0 ∷ 0 ∷ 0 ∷ 0 ∷ []) ∷ node 33188 1 0 (0 ∷ 0 ∷ 0 ∷ 0 ∷ 0 ∷ 0 ∷ 0 ∷ 0 ∷ 0 ∷ 0 ∷ []) ∷ node 33188 1 0 (0 ∷ 0 ∷ 0 ∷ 0 ∷ 0 ∷ 0 ∷ 0 ∷ 0 ∷ 0 ∷ 0 ∷ []) ∷ node 33188 1 0 (0 ∷ 0 ∷ 0 ∷ 0 ∷ 0 ∷ 0 ∷ 0 ∷ 0 ∷ 0 ∷ 0 ∷ []) ∷ node 33188 1 0 (0 ∷ 0 ∷ 0 ∷ 0 ∷ 0 ∷ 0 ∷ 0 ∷ 0 ∷ 0 ∷ 0 ∷ []) ∷ node 33188 1 0 (0 ∷ 0 ∷ 0 ∷ 0 ∷ 0 ∷ 0 ∷ 0 ∷ 0 ∷ 0 ∷ 0 ∷ []) ∷ node 33188 1 0 (0 ∷ 0 ∷ 0 ∷ 0 ∷ 0 ∷ 0 ∷ 0 ∷ 0 ∷ 0 ∷ 0 ∷ []) ∷ node 33188 1 0 (0 ∷ 0 ∷ 0 ∷ 0 ∷ 0 ∷ 0 ∷ 0 ∷ 0 ∷ 0 ∷ 0 ∷ []) ∷ node 33188 1 0 (0 ∷ 0 ∷ 0 ∷ 0 ∷ 0 ∷ 0 ∷ 0 ∷ 0 ∷ 0 ∷ 0 ∷ []) ∷ node 33188 1 0 (0 ∷ 0 ∷ 0 ∷ 0 ∷ 0 ∷ 0 ∷ 0 ∷ 0 ∷ 0 ∷ 0 ∷ []) ∷ node 33188 1 0 (0 ∷ 0 ∷ 0 ∷ 0 ∷ 0 ∷ 0 ∷ 0 ∷ 0 ∷ 0 ∷ 0 ∷ []) ∷ node 33188 1 0 (0 ∷ 0 ∷ 0 ∷ 0 ∷ 0 ∷ 0 ∷ 0 ∷ 0 ∷ 0 ∷ 0 ∷ []) ∷ node 33188 1 0 (0 ∷ 0 ∷ 0 ∷ 0 ∷ 0 ∷ 0 ∷ 0 ∷ 0 ∷ 0 ∷ 0 ∷ []) ∷ node 33188 1 0 (0 ∷ 0 ∷ 0 ∷ 0 ∷ 0 ∷ 0 ∷ 0 ∷ 0 ∷ 0 ∷ 0 ∷ []) ∷ node 33188 1 0 (0 ∷ 0 ∷ 0 ∷ 0 ∷ 0 ∷ 0 ∷ 0 ∷ 0 ∷ 0 ∷ 0 ∷ []) ∷ node 33188 1 0 (0 ∷ 0 ∷ 0 ∷ 0 ∷ 0 ∷ 0 ∷ 0 ∷ 0 ∷ 0 ∷ 0 ∷ []) ∷ node 33188 1 0 (0 ∷ 0 ∷ 0 ∷ 0 ∷ 0 ∷ 0 ∷ 0 ∷ 0 ∷ 0 ∷ 0 ∷ []) ∷ node 33188 1 0 (0 ∷ 0 ∷ 0 ∷ 0 ∷ 0 ∷ 0 ∷ 0 ∷ 0 ∷ 0 ∷ 0 ∷ []) ∷ node 33188 1 0 (0 ∷ 0 ∷ 0 ∷ 0 ∷ 0 ∷ 0 ∷ 0 ∷ 0 ∷ 0 ∷ 0 ∷ []) ∷ node 33188 1 0 (0 ∷ 0 ∷ 0 ∷ 0 ∷ 0 ∷ 0 ∷ 0 ∷ 0 ∷ 0 ∷ 0 ∷ []) ∷ node 33188 1 0 (0 ∷ 0 ∷ 0 ∷ 0 ∷ 0 ∷ 0 ∷ 0 ∷ 0 ∷ 0 ∷ 0 ∷ []) ∷ node 33188 1 0 (0 ∷ 0 ∷ 0 ∷ 0 ∷ 0 ∷ 0 ∷ 0 ∷ 0 ∷ 0 ∷ 0 ∷ []) ∷ node 33188 1 0 (0 ∷ 0 ∷ 0 ∷ 0 ∷ 0 ∷ 0 ∷ 0 ∷ 0 ∷ 0 ∷ 0 ∷ []) ∷ node 33188 1 0 (0 ∷ 0 ∷ 0 ∷ 0 ∷ 0 ∷ 0 ∷ 0 ∷ 0 ∷ 0 ∷ 0 ∷ []) ∷ node 33188 1 0 (0 ∷ 0 ∷ 0 ∷ 0 ∷ 0 ∷ 0 ∷ 0 ∷ 0 ∷ 0 ∷ 0 ∷ []) ∷ node 33188 1 0 (0 ∷ 0 ∷ 0 ∷ 0 ∷ 0 ∷ 0 ∷ 0 ∷ 0 ∷ 0 ∷ 0 ∷ []) ∷ node 33188 1 0 (0 ∷ 0 ∷ 0 ∷ 0 ∷ 0 ∷ 0 ∷ 0 ∷ 0 ∷ 0 ∷ 0 ∷ []) ∷ node 33188 1 0 (0 ∷ 0 ∷ 0 ∷ 0 ∷ 0 ∷ 0 ∷ 0 ∷ 0 ∷ 0 ∷ 0 ∷ []) ∷ node 33188 1 0 (0 ∷ 0 ∷ 0 ∷ 0 ∷ 0 ∷ 0 ∷ 0 ∷ 0 ∷ 0 ∷ 0 ∷ []) ∷ node 33188 1 0 (0 ∷ 0 ∷ 0 ∷ 0 ∷ 0 ∷ 0 ∷ 0 ∷ 0 ∷ 0 ∷ 0 ∷ []) ∷ node 33188 1 0 (0 ∷ 0 ∷ 0 ∷ 0 ∷ 0 ∷ 0 ∷ 0 ∷ 0 ∷ 0 ∷ 0 ∷ []) ∷ node 33188 1 0 (0 ∷ 0 ∷ 0 ∷ 0 ∷ 0 ∷ 0 ∷ 0 ∷ 0 ∷ 0 ∷ 0 ∷ []) ∷ node 33188 1 0 (0 ∷ 0 ∷ 0 ∷ 0 ∷ 0 ∷ 0 ∷ 0 ∷ 0 ∷ 0 ∷ 0 ∷ []) ∷ node 33188 1 0 (0 ∷ 0 ∷ 0 ∷ 0 ∷ 0 ∷ 0 ∷ 0 ∷ 0 ∷ 0 ∷ 0 ∷ []) ∷ node 33188 1 0 (0 ∷ 0 ∷ 0 ∷ 0 ∷ 0 ∷ 0 ∷ 0 ∷ 0 ∷ 0 ∷ 0 ∷ []) ∷ node 33188 1 0 (0 ∷ 0 ∷ 0 ∷ 0 ∷ 0 ∷ 0 ∷ 0 ∷ 0 ∷ 0 ∷ 0 ∷ []) ∷ node 33188 1 0 (0 ∷ 0 ∷ 0 ∷ 0 ∷ 0 ∷ 0 ∷ 0 ∷ 0 ∷ 0 ∷ 0 ∷ []) ∷ node 33188 1 0 (0 ∷ 0 ∷ 0 ∷ 0 ∷ 0 ∷ 0 ∷ 0 ∷ 0 ∷ 0 ∷ 0 ∷ []) ∷ node 33188 1 0 (0 ∷ 0 ∷ 0 ∷ 0 ∷ 0 ∷ 0 ∷ 0 ∷ 0 ∷ 0 ∷ 0 ∷ []) ∷ node 33188 1 0 (0 ∷ 0 ∷ 0 ∷ 0 ∷ 0 ∷ 0 ∷ 0 ∷ 0 ∷ 0 ∷ 0 ∷ []) ∷ node 33188 1 0 (0 ∷ 0 ∷ 0 ∷ 0 ∷ 0 ∷ 0 ∷ 0 ∷ 0 ∷ 0 ∷ 0 ∷ []) ∷ node 33188 1 0 (0 ∷ 0 ∷ 0 ∷ 0 ∷ 0 ∷ 0 ∷ 0 ∷ 0 ∷ 0 ∷ 0 ∷ []) ∷ node 33188 1 0 (0 ∷ 0 ∷ 0 ∷ 0 ∷ 0 ∷ 0 ∷ 0 ∷ 0 ∷ 0 ∷ 0 ∷ []) ∷ node 33188 1 0 (0 ∷ 0 ∷ 0 ∷ 0 ∷ 0 ∷ 0 ∷ 0 ∷ 0 ∷ 0 ∷ 0 ∷ []) ∷ []) (zone_with 8 (file 1024 (piece 0 (hex 3 0x01002e) ∷ piece 16 (hex 4 0x01002e2e) ∷ piece 32 (hex 4 0x02006630) ∷ piece 48 (hex 4 0x03006631) ∷ piece 64 (hex 4 0x04006632) ∷ piece 80 (hex 4 0x05006633) ∷ piece 96 (hex 4 0x06006634) ∷ piece 112 (hex 4 0x07006635) ∷ piece 128 (hex 4 0x08006636) ∷ piece 144 (hex 4 0x09006637) ∷ piece 160 (hex 4 0x0a006638) ∷ piece 176 (hex 4 0x0b006639) ∷ piece 192 (hex 5 0x0c00663130) ∷ piece 208 (hex 5 0x0d00663131) ∷ piece 224 (hex 5 0x0e00663132) ∷ piece 240 (hex 5 0x0f00663133) ∷ piece 256 (hex 5 0x1000663134) ∷ piece 272 (hex 5 0x1100663135) ∷ piece 288 (hex 5 0x1200663136) ∷ piece 304 (hex 5 0x1300663137) ∷ piece 320 (hex 5 0x1400663138) ∷ piece 336 (hex 5 0x1500663139) ∷ piece 352 (hex 5 0x1600663230) ∷ piece 368 (hex 5 0x1700663231) ∷ piece 384 (hex 5 0x1800663232) ∷ piece 400 (hex 5 0x1900663233) ∷ piece 416 (hex 5 0x1a00663234) ∷ piece 432 (hex 5 0x1b00663235) ∷ piece 448 (hex 5 0x1c00663236) ∷ piece 464 (hex 5 0x1d00663237) ∷ piece 480 (hex 5 0x1e00663238) ∷ piece 496 (hex 5 0x1f00663239) ∷ piece 512 (hex 5 0x2000663330) ∷ piece 528 (hex 5 0x2100663331) ∷ piece 544 (hex 5 0x2200663332) ∷ piece 560 (hex 5 0x2300663333) ∷ piece 576 (hex 5 0x2400663334) ∷ piece 592 (hex 5 0x2500663335) ∷ piece 608 (hex 5 0x2600663336) ∷ piece 624 (hex 5 0x2700663337) ∷ piece 640 (hex 5 0x2800663338) ∷ piece 656 (hex 5 0x2900663339) ∷ piece 672 (hex 5 0x2a00663430) ∷ piece 688 (hex 5 0x2b00663431) ∷ piece 704 (hex 5 0x2c00663432) ∷ piece 720 (hex 5 0x2d00663433) ∷ piece 736 (hex 5 0x2e00663434) ∷ piece 752 (hex 5 0x2f00663435) ∷ piece 768 (hex 5 0x3000663436) ∷ piece 784 (hex 5 0x3100663437) ∷ piece 800 (hex 5 0x3200663438) ∷ piece 816 (hex 5 0x3300663439) ∷ piece 832 (hex 5 0x3400663530) ∷ piece 848 (hex 5 0x3500663531) ∷ piece 864 (hex 5 0x3600663532) ∷ piece 880 (hex 5 0x3700663533) ∷ piece 896 (hex 5 0x3800663534) ∷ piece 912 (hex 5 0x3900663535) ∷ piece 928 (hex 5 0x3a00663536) ∷ piece 944 (hex 5 0x3b00663537) ∷ piece 960 (hex 5 0x3c00663538) ∷ piece 976 (hex 5 0x3d00663539) ∷ piece 992 (hex 5 0x3e00663630) ∷ piece 1008 (hex 5 0x3f00663631) ∷ [])) ∷ []) (1 ∷ 2 ∷ 3 ∷ 4 ∷ 5 ∷ 6 ∷ 7 ∷ 8 ∷ 9 ∷ 10 ∷ 11 ∷ 12 ∷ 13 ∷ 14 ∷ 15 ∷ 16 ∷ 17 ∷ 18 ∷ 19 ∷ 20 ∷ 21 ∷ 22 ∷ 23 ∷ 24 ∷ 25 ∷ 26 ∷ 27 ∷ 28 ∷ 29 ∷ 30 ∷ 31 ∷ 32 ∷ 33 ∷ 34 ∷ 35 ∷ 36 ∷ 37 ∷ 38 ∷ 39 ∷ 40 ∷ 41 ∷ 42 ∷ 43 ∷ 44 ∷ 45 ∷ 46 ∷ 47 ∷ 48 ∷ 49 ∷ 50 ∷ 51 ∷ 52 ∷ 53 ∷ 54 ∷ 55 ∷ 56 ∷ 57 ∷ 58 ∷ 59 ∷ 60 ∷ 61 ∷ 62 ∷ 63 ∷ []) (8 ∷ [])) (taken_by [] [] [] []) (wish 1 [] 1 (codes "new")) ≡ Ok (choice 64 64 (9 ∷ 10 ∷ []) (9 ∷ []) [] (10 ∷ []))
unfolding number16 number32 number_in follow pointer_by inside follow_at zone_at block_at entry_of entry_at find_entry data_blocks made_above made_indirect all_entries has_name is_overlooked is_promised new_place way_along missing_on_way promised_zone free_inode left_zones name_check file_need choice_with zones_check choose_blocks choose taken_with branch_of
minix_choose_growth_by_a_zone_in_version_2_with_short_names = refl

-- a second file in the zone that was promised in version 2 with short names
pub minix_choose_a_second_file_in_the_zone_that_was_promised_in_version_2_with_short_names : choose_on (volume_by (super_with V2Short 80 64 1 1 8) (node 16877 2 1024 (8 ∷ 0 ∷ 0 ∷ 0 ∷ 0 ∷ 0 ∷ 0 ∷ 0 ∷ 0 ∷ 0 ∷ []) ∷ node 33188 1 0 (0 ∷ 0 ∷ 0 ∷ 0 ∷ 0 ∷ 0 ∷ 0 ∷ 0 ∷ 0 ∷ 0 ∷ []) ∷ node 33188 1 0 (0 ∷ 0 ∷ 0 ∷ 0 ∷ 0 ∷ 0 ∷ 0 ∷ 0 ∷ 0 ∷ 0 ∷ []) ∷ node 33188 1 0 (0 ∷ 0 ∷ 0 ∷ 0 ∷ 0 ∷ 0 ∷ 0 ∷ 0 ∷ 0 ∷ 0 ∷ []) ∷ node 33188 1 0 (0 ∷ 0 ∷ 0 ∷ 0 ∷ 0 ∷ 0 ∷ 0 ∷ 0 ∷ 0 ∷ 0 ∷ []) ∷ node 33188 1 0 (0 ∷ 0 ∷ 0 ∷ 0 ∷ 0 ∷ 0 ∷ 0 ∷ 0 ∷ 0 ∷ 0 ∷ []) ∷ node 33188 1 0 (0 ∷ 0 ∷ 0 ∷ 0 ∷ 0 ∷ 0 ∷ 0 ∷ 0 ∷ 0 ∷ 0 ∷ []) ∷ node 33188 1 0 (0 ∷ 0 ∷ 0 ∷ 0 ∷ 0 ∷ 0 ∷ 0 ∷ 0 ∷ 0 ∷ 0 ∷ []) ∷ node 33188 1 0 (0 ∷ 0 ∷ 0 ∷ 0 ∷ 0 ∷ 0 ∷ 0 ∷ 0 ∷ 0 ∷ 0 ∷ []) ∷ node 33188 1 0 (0 ∷ 0 ∷ 0 ∷ 0 ∷ 0 ∷ 0 ∷ 0 ∷ 0 ∷ 0 ∷ 0 ∷ []) ∷ node 33188 1 0 (0 ∷ 0 ∷ 0 ∷ 0 ∷ 0 ∷ 0 ∷ 0 ∷ 0 ∷ 0 ∷ 0 ∷ []) ∷ node 33188 1 0 (0 ∷ 0 ∷ 0 ∷ 0 ∷ 0 ∷ 0 ∷ 0 ∷ 0 ∷ 0 ∷ 0 ∷ []) ∷ node 33188 1 0 (0 ∷ 0 ∷ 0 ∷ 0 ∷ 0 ∷ 0 ∷ 0 ∷ 0 ∷ 0 ∷ 0 ∷ []) ∷ node 33188 1 0 (0 ∷ 0 ∷ 0 ∷ 0 ∷ 0 ∷ 0 ∷ 0 ∷ 0 ∷ 0 ∷ 0 ∷ []) ∷ node 33188 1 0 (0 ∷ 0 ∷ 0 ∷ 0 ∷ 0 ∷ 0 ∷ 0 ∷ 0 ∷ 0 ∷ 0 ∷ []) ∷ node 33188 1 0 (0 ∷ 0 ∷ 0 ∷ 0 ∷ 0 ∷ 0 ∷ 0 ∷ 0 ∷ 0 ∷ 0 ∷ []) ∷ node 33188 1 0 (0 ∷ 0 ∷ 0 ∷ 0 ∷ 0 ∷ 0 ∷ 0 ∷ 0 ∷ 0 ∷ 0 ∷ []) ∷ node 33188 1 0 (0 ∷ 0 ∷ 0 ∷ 0 ∷ 0 ∷ 0 ∷ 0 ∷ 0 ∷ 0 ∷ 0 ∷ []) ∷ node 33188 1 0 (0 ∷ 0 ∷ 0 ∷ 0 ∷ 0 ∷ 0 ∷ 0 ∷ 0 ∷ 0 ∷ 0 ∷ []) ∷ node 33188 1 0 (0 ∷ 0 ∷ 0 ∷ 0 ∷ 0 ∷ 0 ∷ 0 ∷ 0 ∷ 0 ∷ 0 ∷ []) ∷ node 33188 1 0 (0 ∷ 0 ∷ 0 ∷ 0 ∷ 0 ∷ 0 ∷ 0 ∷ 0 ∷ 0 ∷ 0 ∷ []) ∷ node 33188 1 0 (0 ∷ 0 ∷ 0 ∷ 0 ∷ 0 ∷ 0 ∷ 0 ∷ 0 ∷ 0 ∷ 0 ∷ []) ∷ node 33188 1 0 (0 ∷ 0 ∷ 0 ∷ 0 ∷ 0 ∷ 0 ∷ 0 ∷ 0 ∷ 0 ∷ 0 ∷ []) ∷ node 33188 1 0 (0 ∷ 0 ∷ 0 ∷ 0 ∷ 0 ∷ 0 ∷ 0 ∷ 0 ∷ 0 ∷ 0 ∷ []) ∷ node 33188 1 0 (0 ∷ 0 ∷ 0 ∷ 0 ∷ 0 ∷ 0 ∷ 0 ∷ 0 ∷ 0 ∷ 0 ∷ []) ∷ node 33188 1 0 (0 ∷ 0 ∷ 0 ∷ 0 ∷ 0 ∷ 0 ∷ 0 ∷ 0 ∷ 0 ∷ 0 ∷ []) ∷ node 33188 1 0 (0 ∷ 0 ∷ 0 ∷ 0 ∷ 0 ∷ 0 ∷ 0 ∷ 0 ∷ 0 ∷ 0 ∷ []) ∷ node 33188 1 0 (0 ∷ 0 ∷ 0 ∷ 0 ∷ 0 ∷ 0 ∷ 0 ∷ 0 ∷ 0 ∷ 0 ∷ []) ∷ node 33188 1 0 (0 ∷ 0 ∷ 0 ∷ 0 ∷ 0 ∷ 0 ∷ 0 ∷ 0 ∷ 0 ∷ 0 ∷ []) ∷ node 33188 1 0 (0 ∷ 0 ∷ 0 ∷ 0 ∷ 0 ∷ 0 ∷ 0 ∷ 0 ∷ 0 ∷ 0 ∷ []) ∷ node 33188 1 0 (0 ∷ 0 ∷ 0 ∷ 0 ∷ 0 ∷ 0 ∷ 0 ∷ 0 ∷ 0 ∷ 0 ∷ []) ∷ node 33188 1 0 (0 ∷ 0 ∷ 0 ∷ 0 ∷ 0 ∷ 0 ∷ 0 ∷ 0 ∷ 0 ∷ 0 ∷ []) ∷ node 33188 1 0 (0 ∷ 0 ∷ 0 ∷ 0 ∷ 0 ∷ 0 ∷ 0 ∷ 0 ∷ 0 ∷ 0 ∷ []) ∷ node 33188 1 0 (0 ∷ 0 ∷ 0 ∷ 0 ∷ 0 ∷ 0 ∷ 0 ∷ 0 ∷ 0 ∷ 0 ∷ []) ∷ node 33188 1 0 (0 ∷ 0 ∷ 0 ∷ 0 ∷ 0 ∷ 0 ∷ 0 ∷ 0 ∷ 0 ∷ 0 ∷ []) ∷ node 33188 1 0 (0 ∷ 0 ∷ 0 ∷ 0 ∷ 0 ∷ 0 ∷ 0 ∷ 0 ∷ 0 ∷ 0 ∷ []) ∷ node 33188 1 0 (0 ∷ 0 ∷ 0 ∷ 0 ∷ 0 ∷ 0 ∷ 0 ∷ 0 ∷ 0 ∷ 0 ∷ []) ∷ node 33188 1 0 (0 ∷ 0 ∷ 0 ∷ 0 ∷ 0 ∷ 0 ∷ 0 ∷ 0 ∷ 0 ∷ 0 ∷ []) ∷ node 33188 1 0 (0 ∷ 0 ∷ 0 ∷ 0 ∷ 0 ∷ 0 ∷ 0 ∷ 0 ∷ 0 ∷ 0 ∷ []) ∷ node 33188 1 0 (0 ∷ 0 ∷ 0 ∷ 0 ∷ 0 ∷ 0 ∷ 0 ∷ 0 ∷ 0 ∷ 0 ∷ []) ∷ node 33188 1 0 (0 ∷ 0 ∷ 0 ∷ 0 ∷ 0 ∷ 0 ∷ 0 ∷ 0 ∷ 0 ∷ 0 ∷ []) ∷ node 33188 1 0 (0 ∷ 0 ∷ 0 ∷ 0 ∷ 0 ∷ 0 ∷ 0 ∷ 0 ∷ 0 ∷ 0 ∷ []) ∷ node 33188 1 0 (0 ∷ 0 ∷ 0 ∷ 0 ∷ 0 ∷ 0 ∷ 0 ∷ 0 ∷ 0 ∷ 0 ∷ []) ∷ node 33188 1 0 (0 ∷ 0 ∷ 0 ∷ 0 ∷ 0 ∷ 0 ∷ 0 ∷ 0 ∷ 0 ∷ 0 ∷ []) ∷ node 33188 1 0 (0 ∷ 0 ∷ 0 ∷ 0 ∷ 0 ∷ 0 ∷ 0 ∷ 0 ∷ 0 ∷ 0 ∷ []) ∷ node 33188 1 0 (0 ∷ 0 ∷ 0 ∷ 0 ∷ 0 ∷ 0 ∷ 0 ∷ 0 ∷ 0 ∷ 0 ∷ []) ∷ node 33188 1 0 (0 ∷ 0 ∷ 0 ∷ 0 ∷ 0 ∷ 0 ∷ 0 ∷ 0 ∷ 0 ∷ 0 ∷ []) ∷ node 33188 1 0 (0 ∷ 0 ∷ 0 ∷ 0 ∷ 0 ∷ 0 ∷ 0 ∷ 0 ∷ 0 ∷ 0 ∷ []) ∷ node 33188 1 0 (0 ∷ 0 ∷ 0 ∷ 0 ∷ 0 ∷ 0 ∷ 0 ∷ 0 ∷ 0 ∷ 0 ∷ []) ∷ node 33188 1 0 (0 ∷ 0 ∷ 0 ∷ 0 ∷ 0 ∷ 0 ∷ 0 ∷ 0 ∷ 0 ∷ 0 ∷ []) ∷ node 33188 1 0 (0 ∷ 0 ∷ 0 ∷ 0 ∷ 0 ∷ 0 ∷ 0 ∷ 0 ∷ 0 ∷ 0 ∷ []) ∷ node 33188 1 0 (0 ∷ 0 ∷ 0 ∷ 0 ∷ 0 ∷ 0 ∷ 0 ∷ 0 ∷ 0 ∷ 0 ∷ []) ∷ node 33188 1 0 (0 ∷ 0 ∷ 0 ∷ 0 ∷ 0 ∷ 0 ∷ 0 ∷ 0 ∷ 0 ∷ 0 ∷ []) ∷ node 33188 1 0 (0 ∷ 0 ∷ 0 ∷ 0 ∷ 0 ∷ 0 ∷ 0 ∷ 0 ∷ 0 ∷ 0 ∷ []) ∷ node 33188 1 0 (0 ∷ 0 ∷ 0 ∷ 0 ∷ 0 ∷ 0 ∷ 0 ∷ 0 ∷ 0 ∷ 0 ∷ []) ∷ node 33188 1 0 (0 ∷ 0 ∷ 0 ∷ 0 ∷ 0 ∷ 0 ∷ 0 ∷ 0 ∷ 0 ∷ 0 ∷ []) ∷ node 33188 1 0 (0 ∷ 0 ∷ 0 ∷ 0 ∷ 0 ∷ 0 ∷ 0 ∷ 0 ∷ 0 ∷ 0 ∷ []) ∷ node 33188 1 0 (0 ∷ 0 ∷ 0 ∷ 0 ∷ 0 ∷ 0 ∷ 0 ∷ 0 ∷ 0 ∷ 0 ∷ []) ∷ node 33188 1 0 (0 ∷ 0 ∷ 0 ∷ 0 ∷ 0 ∷ 0 ∷ 0 ∷ 0 ∷ 0 ∷ 0 ∷ []) ∷ node 33188 1 0 (0 ∷ 0 ∷ 0 ∷ 0 ∷ 0 ∷ 0 ∷ 0 ∷ 0 ∷ 0 ∷ 0 ∷ []) ∷ node 33188 1 0 (0 ∷ 0 ∷ 0 ∷ 0 ∷ 0 ∷ 0 ∷ 0 ∷ 0 ∷ 0 ∷ 0 ∷ []) ∷ node 33188 1 0 (0 ∷ 0 ∷ 0 ∷ 0 ∷ 0 ∷ 0 ∷ 0 ∷ 0 ∷ 0 ∷ 0 ∷ []) ∷ node 33188 1 0 (0 ∷ 0 ∷ 0 ∷ 0 ∷ 0 ∷ 0 ∷ 0 ∷ 0 ∷ 0 ∷ 0 ∷ []) ∷ []) (zone_with 8 (file 1024 (piece 0 (hex 3 0x01002e) ∷ piece 16 (hex 4 0x01002e2e) ∷ piece 32 (hex 4 0x02006630) ∷ piece 48 (hex 4 0x03006631) ∷ piece 64 (hex 4 0x04006632) ∷ piece 80 (hex 4 0x05006633) ∷ piece 96 (hex 4 0x06006634) ∷ piece 112 (hex 4 0x07006635) ∷ piece 128 (hex 4 0x08006636) ∷ piece 144 (hex 4 0x09006637) ∷ piece 160 (hex 4 0x0a006638) ∷ piece 176 (hex 4 0x0b006639) ∷ piece 192 (hex 5 0x0c00663130) ∷ piece 208 (hex 5 0x0d00663131) ∷ piece 224 (hex 5 0x0e00663132) ∷ piece 240 (hex 5 0x0f00663133) ∷ piece 256 (hex 5 0x1000663134) ∷ piece 272 (hex 5 0x1100663135) ∷ piece 288 (hex 5 0x1200663136) ∷ piece 304 (hex 5 0x1300663137) ∷ piece 320 (hex 5 0x1400663138) ∷ piece 336 (hex 5 0x1500663139) ∷ piece 352 (hex 5 0x1600663230) ∷ piece 368 (hex 5 0x1700663231) ∷ piece 384 (hex 5 0x1800663232) ∷ piece 400 (hex 5 0x1900663233) ∷ piece 416 (hex 5 0x1a00663234) ∷ piece 432 (hex 5 0x1b00663235) ∷ piece 448 (hex 5 0x1c00663236) ∷ piece 464 (hex 5 0x1d00663237) ∷ piece 480 (hex 5 0x1e00663238) ∷ piece 496 (hex 5 0x1f00663239) ∷ piece 512 (hex 5 0x2000663330) ∷ piece 528 (hex 5 0x2100663331) ∷ piece 544 (hex 5 0x2200663332) ∷ piece 560 (hex 5 0x2300663333) ∷ piece 576 (hex 5 0x2400663334) ∷ piece 592 (hex 5 0x2500663335) ∷ piece 608 (hex 5 0x2600663336) ∷ piece 624 (hex 5 0x2700663337) ∷ piece 640 (hex 5 0x2800663338) ∷ piece 656 (hex 5 0x2900663339) ∷ piece 672 (hex 5 0x2a00663430) ∷ piece 688 (hex 5 0x2b00663431) ∷ piece 704 (hex 5 0x2c00663432) ∷ piece 720 (hex 5 0x2d00663433) ∷ piece 736 (hex 5 0x2e00663434) ∷ piece 752 (hex 5 0x2f00663435) ∷ piece 768 (hex 5 0x3000663436) ∷ piece 784 (hex 5 0x3100663437) ∷ piece 800 (hex 5 0x3200663438) ∷ piece 816 (hex 5 0x3300663439) ∷ piece 832 (hex 5 0x3400663530) ∷ piece 848 (hex 5 0x3500663531) ∷ piece 864 (hex 5 0x3600663532) ∷ piece 880 (hex 5 0x3700663533) ∷ piece 896 (hex 5 0x3800663534) ∷ piece 912 (hex 5 0x3900663535) ∷ piece 928 (hex 5 0x3a00663536) ∷ piece 944 (hex 5 0x3b00663537) ∷ piece 960 (hex 5 0x3c00663538) ∷ piece 976 (hex 5 0x3d00663539) ∷ piece 992 (hex 5 0x3e00663630) ∷ piece 1008 (hex 5 0x3f00663631) ∷ [])) ∷ []) (1 ∷ 2 ∷ 3 ∷ 4 ∷ 5 ∷ 6 ∷ 7 ∷ 8 ∷ 9 ∷ 10 ∷ 11 ∷ 12 ∷ 13 ∷ 14 ∷ 15 ∷ 16 ∷ 17 ∷ 18 ∷ 19 ∷ 20 ∷ 21 ∷ 22 ∷ 23 ∷ 24 ∷ 25 ∷ 26 ∷ 27 ∷ 28 ∷ 29 ∷ 30 ∷ 31 ∷ 32 ∷ 33 ∷ 34 ∷ 35 ∷ 36 ∷ 37 ∷ 38 ∷ 39 ∷ 40 ∷ 41 ∷ 42 ∷ 43 ∷ 44 ∷ 45 ∷ 46 ∷ 47 ∷ 48 ∷ 49 ∷ 50 ∷ 51 ∷ 52 ∷ 53 ∷ 54 ∷ 55 ∷ 56 ∷ 57 ∷ 58 ∷ 59 ∷ 60 ∷ 61 ∷ 62 ∷ 63 ∷ []) (8 ∷ [])) (taken_by (9 ∷ 10 ∷ []) (64 ∷ []) (promise 1 64 (10 ∷ []) ∷ []) []) (wish 1 [] 1 (codes "newer")) ≡ Ok (choice 65 65 (11 ∷ []) (11 ∷ []) [] (10 ∷ []))
unfolding number16 number32 number_in follow pointer_by inside follow_at zone_at block_at entry_of entry_at find_entry data_blocks made_above made_indirect all_entries has_name is_overlooked is_promised new_place way_along missing_on_way promised_zone free_inode left_zones name_check file_need choice_with zones_check choose_blocks choose taken_with branch_of
minix_choose_a_second_file_in_the_zone_that_was_promised_in_version_2_with_short_names = refl

-- a place in a hole of a directory in version 2 with short names
pub minix_choose_a_place_in_a_hole_of_a_directory_in_version_2_with_short_names : choose_on (volume_by (super_with V2Short 16 64 1 1 8) (node 16877 2 3072 (8 ∷ 0 ∷ 9 ∷ 0 ∷ 0 ∷ 0 ∷ 0 ∷ 0 ∷ 0 ∷ 0 ∷ []) ∷ []) (zone_with 8 (file 1024 (piece 0 (hex 3 0x01002e) ∷ piece 16 (hex 4 0x01002e2e) ∷ piece 32 (replicate 992 1) ∷ [])) ∷ zone_with 9 (replicate 1024 1) ∷ []) (1 ∷ []) (8 ∷ 9 ∷ [])) (taken_by [] [] [] []) (wish 1 [] 1 (codes "new")) ≡ Ok (choice 2 64 (10 ∷ 11 ∷ []) (10 ∷ []) [] (11 ∷ []))
unfolding number16 number32 number_in follow pointer_by inside follow_at zone_at block_at entry_of entry_at find_entry data_blocks made_above made_indirect all_entries has_name is_overlooked is_promised new_place way_along missing_on_way promised_zone free_inode left_zones name_check file_need choice_with zones_check choose_blocks choose taken_with branch_of
minix_choose_a_place_in_a_hole_of_a_directory_in_version_2_with_short_names = refl

-- a second place in that hole in version 2 with short names
pub minix_choose_a_second_place_in_that_hole_in_version_2_with_short_names : choose_on (volume_by (super_with V2Short 16 64 1 1 8) (node 16877 2 3072 (8 ∷ 0 ∷ 9 ∷ 0 ∷ 0 ∷ 0 ∷ 0 ∷ 0 ∷ 0 ∷ 0 ∷ []) ∷ []) (zone_with 8 (file 1024 (piece 0 (hex 3 0x01002e) ∷ piece 16 (hex 4 0x01002e2e) ∷ piece 32 (replicate 992 1) ∷ [])) ∷ zone_with 9 (replicate 1024 1) ∷ []) (1 ∷ []) (8 ∷ 9 ∷ [])) (taken_by (10 ∷ 11 ∷ []) (2 ∷ []) (promise 1 64 (11 ∷ []) ∷ []) []) (wish 1 [] 1 (codes "newer")) ≡ Ok (choice 3 65 (12 ∷ []) (12 ∷ []) [] (11 ∷ []))
unfolding number16 number32 number_in follow pointer_by inside follow_at zone_at block_at entry_of entry_at find_entry data_blocks made_above made_indirect all_entries has_name is_overlooked is_promised new_place way_along missing_on_way promised_zone free_inode left_zones name_check file_need choice_with zones_check choose_blocks choose taken_with branch_of
minix_choose_a_second_place_in_that_hole_in_version_2_with_short_names = refl

-- zones kept out in version 2 with short names
pub minix_choose_zones_kept_out_in_version_2_with_short_names : choose_on (volume_by (super_with V2Short 16 64 1 1 8) (node 16877 2 48 (8 ∷ 0 ∷ 0 ∷ 0 ∷ 0 ∷ 0 ∷ 0 ∷ 0 ∷ 0 ∷ 0 ∷ []) ∷ node 33188 1 0 (0 ∷ 0 ∷ 0 ∷ 0 ∷ 0 ∷ 0 ∷ 0 ∷ 0 ∷ 0 ∷ 0 ∷ []) ∷ []) (zone_with 8 (file 1024 (piece 0 (hex 3 0x01002e) ∷ piece 16 (hex 4 0x01002e2e) ∷ piece 32 (hex 3 0x020061) ∷ [])) ∷ []) (1 ∷ 2 ∷ []) (8 ∷ [])) (taken_by (9 ∷ 12 ∷ []) [] [] []) (wish 3000 [] 1 (codes "new")) ≡ Ok (choice 3 3 (10 ∷ 11 ∷ 13 ∷ []) (10 ∷ 11 ∷ 13 ∷ []) [] [])
unfolding number16 number32 number_in follow pointer_by inside follow_at zone_at block_at entry_of entry_at find_entry data_blocks made_above made_indirect all_entries has_name is_overlooked is_promised new_place way_along missing_on_way promised_zone free_inode left_zones name_check file_need choice_with zones_check choose_blocks choose taken_with branch_of
minix_choose_zones_kept_out_in_version_2_with_short_names = refl

-- what was promised is kept out in version 2 with short names
pub minix_choose_what_was_promised_is_kept_out_in_version_2_with_short_names : choose_on (volume_by (super_with V2Short 16 64 1 1 8) (node 16877 2 48 (8 ∷ 0 ∷ 0 ∷ 0 ∷ 0 ∷ 0 ∷ 0 ∷ 0 ∷ 0 ∷ 0 ∷ []) ∷ node 33188 1 0 (0 ∷ 0 ∷ 0 ∷ 0 ∷ 0 ∷ 0 ∷ 0 ∷ 0 ∷ 0 ∷ 0 ∷ []) ∷ []) (zone_with 8 (file 1024 (piece 0 (hex 3 0x01002e) ∷ piece 16 (hex 4 0x01002e2e) ∷ piece 32 (hex 3 0x020061) ∷ [])) ∷ []) (1 ∷ 2 ∷ []) (8 ∷ [])) (taken_by (9 ∷ 10 ∷ 11 ∷ 12 ∷ 13 ∷ []) (3 ∷ []) (promise 1 3 [] ∷ []) []) (wish 2000 [] 1 (codes "newer")) ≡ Ok (choice 4 4 (14 ∷ 15 ∷ []) (14 ∷ 15 ∷ []) [] [])
unfolding number16 number32 number_in follow pointer_by inside follow_at zone_at block_at entry_of entry_at find_entry data_blocks made_above made_indirect all_entries has_name is_overlooked is_promised new_place way_along missing_on_way promised_zone free_inode left_zones name_check file_need choice_with zones_check choose_blocks choose taken_with branch_of
minix_choose_what_was_promised_is_kept_out_in_version_2_with_short_names = refl

-- a name that is overlooked in version 2 with short names
pub minix_choose_a_name_that_is_overlooked_in_version_2_with_short_names : choose_on (volume_by (super_with V2Short 16 64 1 1 8) (node 16877 2 48 (8 ∷ 0 ∷ 0 ∷ 0 ∷ 0 ∷ 0 ∷ 0 ∷ 0 ∷ 0 ∷ 0 ∷ []) ∷ node 33188 1 0 (0 ∷ 0 ∷ 0 ∷ 0 ∷ 0 ∷ 0 ∷ 0 ∷ 0 ∷ 0 ∷ 0 ∷ []) ∷ []) (zone_with 8 (file 1024 (piece 0 (hex 3 0x01002e) ∷ piece 16 (hex 4 0x01002e2e) ∷ piece 32 (hex 3 0x020061) ∷ [])) ∷ []) (1 ∷ 2 ∷ []) (8 ∷ [])) (taken_by [] [] [] (overlook 1 (codes "a") ∷ [])) (wish 10 [] 1 (codes "a")) ≡ Ok (choice 3 3 (9 ∷ []) (9 ∷ []) [] [])
unfolding number16 number32 number_in follow pointer_by inside follow_at zone_at block_at entry_of entry_at find_entry data_blocks made_above made_indirect all_entries has_name is_overlooked is_promised new_place way_along missing_on_way promised_zone free_inode left_zones name_check file_need choice_with zones_check choose_blocks choose taken_with branch_of
minix_choose_a_name_that_is_overlooked_in_version_2_with_short_names = refl

-- a name overlooked elsewhere in version 2 with short names
pub minix_choose_a_name_overlooked_elsewhere_in_version_2_with_short_names : choose_on (volume_by (super_with V2Short 16 64 1 1 8) (node 16877 2 48 (8 ∷ 0 ∷ 0 ∷ 0 ∷ 0 ∷ 0 ∷ 0 ∷ 0 ∷ 0 ∷ 0 ∷ []) ∷ node 33188 1 0 (0 ∷ 0 ∷ 0 ∷ 0 ∷ 0 ∷ 0 ∷ 0 ∷ 0 ∷ 0 ∷ 0 ∷ []) ∷ []) (zone_with 8 (file 1024 (piece 0 (hex 3 0x01002e) ∷ piece 16 (hex 4 0x01002e2e) ∷ piece 32 (hex 3 0x020061) ∷ [])) ∷ []) (1 ∷ 2 ∷ []) (8 ∷ [])) (taken_by [] [] [] (overlook 2 (codes "a") ∷ overlook 1 (codes "A") ∷ [])) (wish 10 [] 1 (codes "a")) ≡ Err Exists
unfolding number16 number32 number_in follow pointer_by inside follow_at zone_at block_at entry_of entry_at find_entry data_blocks made_above made_indirect all_entries has_name is_overlooked is_promised new_place way_along missing_on_way promised_zone free_inode left_zones name_check file_need choice_with zones_check choose_blocks choose taken_with branch_of
minix_choose_a_name_overlooked_elsewhere_in_version_2_with_short_names = refl

-- a file of 3000 bytes in version 2 with long names
pub minix_choose_a_file_of_3000_bytes_in_version_2_with_long_names : choose_on (volume_by (super_with V2Long 16 64 1 1 8) (node 16877 2 160 (8 ∷ 0 ∷ 0 ∷ 0 ∷ 0 ∷ 0 ∷ 0 ∷ 0 ∷ 0 ∷ 0 ∷ []) ∷ node 33188 1 0 (0 ∷ 0 ∷ 0 ∷ 0 ∷ 0 ∷ 0 ∷ 0 ∷ 0 ∷ 0 ∷ 0 ∷ []) ∷ node 33188 1 0 (0 ∷ 0 ∷ 0 ∷ 0 ∷ 0 ∷ 0 ∷ 0 ∷ 0 ∷ 0 ∷ 0 ∷ []) ∷ []) (zone_with 8 (file 1024 (piece 0 (hex 3 0x01002e) ∷ piece 32 (hex 4 0x01002e2e) ∷ piece 64 (hex 3 0x020061) ∷ piece 128 (hex 3 0x030062) ∷ [])) ∷ []) (1 ∷ 2 ∷ 3 ∷ []) (8 ∷ [])) (taken_by [] [] [] []) (wish 3000 [] 1 (codes "new")) ≡ Ok (choice 4 3 (9 ∷ 10 ∷ 11 ∷ []) (9 ∷ 10 ∷ 11 ∷ []) [] [])
unfolding number16 number32 number_in follow pointer_by inside follow_at zone_at block_at entry_of entry_at find_entry data_blocks made_above made_indirect all_entries has_name is_overlooked is_promised new_place way_along missing_on_way promised_zone free_inode left_zones name_check file_need choice_with zones_check choose_blocks choose taken_with branch_of
minix_choose_a_file_of_3000_bytes_in_version_2_with_long_names = refl

-- a file of no bytes in version 2 with long names
pub minix_choose_a_file_of_no_bytes_in_version_2_with_long_names : choose_on (volume_by (super_with V2Long 16 64 1 1 8) (node 16877 2 160 (8 ∷ 0 ∷ 0 ∷ 0 ∷ 0 ∷ 0 ∷ 0 ∷ 0 ∷ 0 ∷ 0 ∷ []) ∷ node 33188 1 0 (0 ∷ 0 ∷ 0 ∷ 0 ∷ 0 ∷ 0 ∷ 0 ∷ 0 ∷ 0 ∷ 0 ∷ []) ∷ node 33188 1 0 (0 ∷ 0 ∷ 0 ∷ 0 ∷ 0 ∷ 0 ∷ 0 ∷ 0 ∷ 0 ∷ 0 ∷ []) ∷ []) (zone_with 8 (file 1024 (piece 0 (hex 3 0x01002e) ∷ piece 32 (hex 4 0x01002e2e) ∷ piece 64 (hex 3 0x020061) ∷ piece 128 (hex 3 0x030062) ∷ [])) ∷ []) (1 ∷ 2 ∷ 3 ∷ []) (8 ∷ [])) (taken_by [] [] [] []) (wish 0 [] 1 (codes "new")) ≡ Ok (choice 4 3 [] [] [] [])
unfolding number16 number32 number_in follow pointer_by inside follow_at zone_at block_at entry_of entry_at find_entry data_blocks made_above made_indirect all_entries has_name is_overlooked is_promised new_place way_along missing_on_way promised_zone free_inode left_zones name_check file_need choice_with zones_check choose_blocks choose taken_with branch_of
minix_choose_a_file_of_no_bytes_in_version_2_with_long_names = refl
