-- Cases of what is chosen for a new file of a Minix volume, written by tools/choose_cases.py.
use Rattle.std.proofs.Common.{◌≡◌, [], ◌∷◌, Ok, Err, codes, replicate, ◌++◌, refl}
use Rattle.lilo_model.specs.Bytes.{number16, number32}
use Rattle.lilo_model.specs.MinixEntries.{entry_of, entry_at, find_entry}
use Rattle.lilo_model.specs.MinixLayout.{V1Short, V1Long, V2Short, V2Long}
use Rattle.lilo_model.specs.MinixParts.{number_in, follow, pointer_by, inside, follow_at, zone_at, block_at}
use Rattle.lilo_model.specs.MinixWalk.{branch_of}
use Rattle.write_model.specs.Choice.{free_inode, left_zones, name_check, file_need, choice_with, zones_check, choose_blocks, choose, taken_with}
use Rattle.write_model.specs.FileZones.{data_blocks, made_above, made_indirect}
use Rattle.write_model.specs.Growth.{way_along, missing_on_way, promised_zone}
use Rattle.write_model.specs.Places.{all_entries, has_name, is_overlooked, is_promised, new_place}
use Rattle.write_model.specs.Wish.{NameTooLong, Exists, NoInode, NoSpace}
use Rattle.model_cases.specs.Sparse.{file, piece, hex}
use Rattle.model_cases.specs.Surveys.{super_with, volume_by, node, zone_with}
use Rattle.model_cases.specs.Choices.{choose_on, taken_by, promise, overlook, wish, choice, up_from}

-- a hole in version 2 with long names
pub minix_choose_a_hole_in_version_2_with_long_names : choose_on (volume_by (super_with V2Long 16 64 1 1 8) (node 16877 2 160 (8 ∷ 0 ∷ 0 ∷ 0 ∷ 0 ∷ 0 ∷ 0 ∷ 0 ∷ 0 ∷ 0 ∷ []) ∷ node 33188 1 0 (0 ∷ 0 ∷ 0 ∷ 0 ∷ 0 ∷ 0 ∷ 0 ∷ 0 ∷ 0 ∷ 0 ∷ []) ∷ node 33188 1 0 (0 ∷ 0 ∷ 0 ∷ 0 ∷ 0 ∷ 0 ∷ 0 ∷ 0 ∷ 0 ∷ 0 ∷ []) ∷ []) (zone_with 8 (file 1024 (piece 0 (hex 3 0x01002e) ∷ piece 32 (hex 4 0x01002e2e) ∷ piece 64 (hex 3 0x020061) ∷ piece 128 (hex 3 0x030062) ∷ [])) ∷ []) (1 ∷ 2 ∷ 3 ∷ []) (8 ∷ [])) (taken_by [] [] [] []) (wish 5000 (1 ∷ 3 ∷ []) 1 (codes "new")) ≡ Ok (choice 4 3 (9 ∷ 10 ∷ 11 ∷ []) (9 ∷ 0 ∷ 10 ∷ 0 ∷ 11 ∷ []) [] [])
unfolding number16 number32 number_in follow pointer_by inside follow_at zone_at block_at entry_of entry_at find_entry data_blocks made_above made_indirect all_entries has_name is_overlooked is_promised new_place way_along missing_on_way promised_zone free_inode left_zones name_check file_need choice_with zones_check choose_blocks choose taken_with branch_of
minix_choose_a_hole_in_version_2_with_long_names = refl

-- all holes in version 2 with long names
pub minix_choose_all_holes_in_version_2_with_long_names : choose_on (volume_by (super_with V2Long 16 64 1 1 8) (node 16877 2 160 (8 ∷ 0 ∷ 0 ∷ 0 ∷ 0 ∷ 0 ∷ 0 ∷ 0 ∷ 0 ∷ 0 ∷ []) ∷ node 33188 1 0 (0 ∷ 0 ∷ 0 ∷ 0 ∷ 0 ∷ 0 ∷ 0 ∷ 0 ∷ 0 ∷ 0 ∷ []) ∷ node 33188 1 0 (0 ∷ 0 ∷ 0 ∷ 0 ∷ 0 ∷ 0 ∷ 0 ∷ 0 ∷ 0 ∷ 0 ∷ []) ∷ []) (zone_with 8 (file 1024 (piece 0 (hex 3 0x01002e) ∷ piece 32 (hex 4 0x01002e2e) ∷ piece 64 (hex 3 0x020061) ∷ piece 128 (hex 3 0x030062) ∷ [])) ∷ []) (1 ∷ 2 ∷ 3 ∷ []) (8 ∷ [])) (taken_by [] [] [] []) (wish 3072 (0 ∷ 1 ∷ 2 ∷ []) 1 (codes "new")) ≡ Ok (choice 4 3 [] (0 ∷ 0 ∷ 0 ∷ []) [] [])
unfolding number16 number32 number_in follow pointer_by inside follow_at zone_at block_at entry_of entry_at find_entry data_blocks made_above made_indirect all_entries has_name is_overlooked is_promised new_place way_along missing_on_way promised_zone free_inode left_zones name_check file_need choice_with zones_check choose_blocks choose taken_with branch_of
minix_choose_all_holes_in_version_2_with_long_names = refl

-- a name that is there in version 2 with long names
pub minix_choose_a_name_that_is_there_in_version_2_with_long_names : choose_on (volume_by (super_with V2Long 16 64 1 1 8) (node 16877 2 160 (8 ∷ 0 ∷ 0 ∷ 0 ∷ 0 ∷ 0 ∷ 0 ∷ 0 ∷ 0 ∷ 0 ∷ []) ∷ node 33188 1 0 (0 ∷ 0 ∷ 0 ∷ 0 ∷ 0 ∷ 0 ∷ 0 ∷ 0 ∷ 0 ∷ 0 ∷ []) ∷ node 33188 1 0 (0 ∷ 0 ∷ 0 ∷ 0 ∷ 0 ∷ 0 ∷ 0 ∷ 0 ∷ 0 ∷ 0 ∷ []) ∷ []) (zone_with 8 (file 1024 (piece 0 (hex 3 0x01002e) ∷ piece 32 (hex 4 0x01002e2e) ∷ piece 64 (hex 3 0x020061) ∷ piece 128 (hex 3 0x030062) ∷ [])) ∷ []) (1 ∷ 2 ∷ 3 ∷ []) (8 ∷ [])) (taken_by [] [] [] []) (wish 10 [] 1 (codes "b")) ≡ Err Exists
unfolding number16 number32 number_in follow pointer_by inside follow_at zone_at block_at entry_of entry_at find_entry data_blocks made_above made_indirect all_entries has_name is_overlooked is_promised new_place way_along missing_on_way promised_zone free_inode left_zones name_check file_need choice_with zones_check choose_blocks choose taken_with branch_of
minix_choose_a_name_that_is_there_in_version_2_with_long_names = refl

-- a name of the room of version 2 with long names
pub minix_choose_a_name_of_the_room_of_version_2_with_long_names : choose_on (volume_by (super_with V2Long 16 64 1 1 8) (node 16877 2 160 (8 ∷ 0 ∷ 0 ∷ 0 ∷ 0 ∷ 0 ∷ 0 ∷ 0 ∷ 0 ∷ 0 ∷ []) ∷ node 33188 1 0 (0 ∷ 0 ∷ 0 ∷ 0 ∷ 0 ∷ 0 ∷ 0 ∷ 0 ∷ 0 ∷ 0 ∷ []) ∷ node 33188 1 0 (0 ∷ 0 ∷ 0 ∷ 0 ∷ 0 ∷ 0 ∷ 0 ∷ 0 ∷ 0 ∷ 0 ∷ []) ∷ []) (zone_with 8 (file 1024 (piece 0 (hex 3 0x01002e) ∷ piece 32 (hex 4 0x01002e2e) ∷ piece 64 (hex 3 0x020061) ∷ piece 128 (hex 3 0x030062) ∷ [])) ∷ []) (1 ∷ 2 ∷ 3 ∷ []) (8 ∷ [])) (taken_by [] [] [] []) (wish 1 [] 1 (replicate 30 110)) ≡ Ok (choice 4 3 (9 ∷ []) (9 ∷ []) [] [])
unfolding number16 number32 number_in follow pointer_by inside follow_at zone_at block_at entry_of entry_at find_entry data_blocks made_above made_indirect all_entries has_name is_overlooked is_promised new_place way_along missing_on_way promised_zone free_inode left_zones name_check file_need choice_with zones_check choose_blocks choose taken_with branch_of
minix_choose_a_name_of_the_room_of_version_2_with_long_names = refl

-- a name too long for version 2 with long names
pub minix_choose_a_name_too_long_for_version_2_with_long_names : choose_on (volume_by (super_with V2Long 16 64 1 1 8) (node 16877 2 160 (8 ∷ 0 ∷ 0 ∷ 0 ∷ 0 ∷ 0 ∷ 0 ∷ 0 ∷ 0 ∷ 0 ∷ []) ∷ node 33188 1 0 (0 ∷ 0 ∷ 0 ∷ 0 ∷ 0 ∷ 0 ∷ 0 ∷ 0 ∷ 0 ∷ 0 ∷ []) ∷ node 33188 1 0 (0 ∷ 0 ∷ 0 ∷ 0 ∷ 0 ∷ 0 ∷ 0 ∷ 0 ∷ 0 ∷ 0 ∷ []) ∷ []) (zone_with 8 (file 1024 (piece 0 (hex 3 0x01002e) ∷ piece 32 (hex 4 0x01002e2e) ∷ piece 64 (hex 3 0x020061) ∷ piece 128 (hex 3 0x030062) ∷ [])) ∷ []) (1 ∷ 2 ∷ 3 ∷ []) (8 ∷ [])) (taken_by [] [] [] []) (wish 1 [] 1 (replicate 31 110)) ≡ Err NameTooLong
unfolding number16 number32 number_in follow pointer_by inside follow_at zone_at block_at entry_of entry_at find_entry data_blocks made_above made_indirect all_entries has_name is_overlooked is_promised new_place way_along missing_on_way promised_zone free_inode left_zones name_check file_need choice_with zones_check choose_blocks choose taken_with branch_of
minix_choose_a_name_too_long_for_version_2_with_long_names = refl

-- a name that begins one that is there in version 2 with long names
pub minix_choose_a_name_that_begins_one_that_is_there_in_version_2_with_long_names : choose_on (volume_by (super_with V2Long 16 64 1 1 8) (node 16877 2 96 (8 ∷ 0 ∷ 0 ∷ 0 ∷ 0 ∷ 0 ∷ 0 ∷ 0 ∷ 0 ∷ 0 ∷ []) ∷ node 33188 1 0 (0 ∷ 0 ∷ 0 ∷ 0 ∷ 0 ∷ 0 ∷ 0 ∷ 0 ∷ 0 ∷ 0 ∷ []) ∷ []) (zone_with 8 (file 1024 (piece 0 (hex 3 0x01002e) ∷ piece 32 (hex 4 0x01002e2e) ∷ piece 64 (hex 4 0x02006162) ∷ [])) ∷ []) (1 ∷ 2 ∷ []) (8 ∷ [])) (taken_by [] [] [] []) (wish 1 [] 1 (codes "a")) ≡ Ok (choice 3 3 (9 ∷ []) (9 ∷ []) [] [])
unfolding number16 number32 number_in follow pointer_by inside follow_at zone_at block_at entry_of entry_at find_entry data_blocks made_above made_indirect all_entries has_name is_overlooked is_promised new_place way_along missing_on_way promised_zone free_inode left_zones name_check file_need choice_with zones_check choose_blocks choose taken_with branch_of
minix_choose_a_name_that_begins_one_that_is_there_in_version_2_with_long_names = refl

-- seven blocks in version 2 with long names
pub minix_choose_seven_blocks_in_version_2_with_long_names : choose_on (volume_by (super_with V2Long 16 64 1 1 8) (node 16877 2 160 (8 ∷ 0 ∷ 0 ∷ 0 ∷ 0 ∷ 0 ∷ 0 ∷ 0 ∷ 0 ∷ 0 ∷ []) ∷ node 33188 1 0 (0 ∷ 0 ∷ 0 ∷ 0 ∷ 0 ∷ 0 ∷ 0 ∷ 0 ∷ 0 ∷ 0 ∷ []) ∷ node 33188 1 0 (0 ∷ 0 ∷ 0 ∷ 0 ∷ 0 ∷ 0 ∷ 0 ∷ 0 ∷ 0 ∷ 0 ∷ []) ∷ []) (zone_with 8 (file 1024 (piece 0 (hex 3 0x01002e) ∷ piece 32 (hex 4 0x01002e2e) ∷ piece 64 (hex 3 0x020061) ∷ piece 128 (hex 3 0x030062) ∷ [])) ∷ []) (1 ∷ 2 ∷ 3 ∷ []) (8 ∷ [])) (taken_by [] [] [] []) (wish 7168 [] 1 (codes "new")) ≡ Ok (choice 4 3 (up_from 9 7) (up_from 9 7) [] [])
unfolding number16 number32 number_in follow pointer_by inside follow_at zone_at block_at entry_of entry_at find_entry data_blocks made_above made_indirect all_entries has_name is_overlooked is_promised new_place way_along missing_on_way promised_zone free_inode left_zones name_check file_need choice_with zones_check choose_blocks choose taken_with branch_of
minix_choose_seven_blocks_in_version_2_with_long_names = refl

-- eight blocks in version 2 with long names
pub minix_choose_eight_blocks_in_version_2_with_long_names : choose_on (volume_by (super_with V2Long 16 64 1 1 8) (node 16877 2 160 (8 ∷ 0 ∷ 0 ∷ 0 ∷ 0 ∷ 0 ∷ 0 ∷ 0 ∷ 0 ∷ 0 ∷ []) ∷ node 33188 1 0 (0 ∷ 0 ∷ 0 ∷ 0 ∷ 0 ∷ 0 ∷ 0 ∷ 0 ∷ 0 ∷ 0 ∷ []) ∷ node 33188 1 0 (0 ∷ 0 ∷ 0 ∷ 0 ∷ 0 ∷ 0 ∷ 0 ∷ 0 ∷ 0 ∷ 0 ∷ []) ∷ []) (zone_with 8 (file 1024 (piece 0 (hex 3 0x01002e) ∷ piece 32 (hex 4 0x01002e2e) ∷ piece 64 (hex 3 0x020061) ∷ piece 128 (hex 3 0x030062) ∷ [])) ∷ []) (1 ∷ 2 ∷ 3 ∷ []) (8 ∷ [])) (taken_by [] [] [] []) (wish 7169 [] 1 (codes "new")) ≡ Ok (choice 4 3 (up_from 9 9) (up_from 9 8) (17 ∷ []) [])
unfolding number16 number32 number_in follow pointer_by inside follow_at zone_at block_at entry_of entry_at find_entry data_blocks made_above made_indirect all_entries has_name is_overlooked is_promised new_place way_along missing_on_way promised_zone free_inode left_zones name_check file_need choice_with zones_check choose_blocks choose taken_with branch_of
minix_choose_eight_blocks_in_version_2_with_long_names = refl

-- eight blocks of which the eighth is a hole in version 2 with long names
pub minix_choose_eight_blocks_of_which_the_eighth_is_a_hole_in_version_2_with_long_names : choose_on (volume_by (super_with V2Long 16 64 1 1 8) (node 16877 2 160 (8 ∷ 0 ∷ 0 ∷ 0 ∷ 0 ∷ 0 ∷ 0 ∷ 0 ∷ 0 ∷ 0 ∷ []) ∷ node 33188 1 0 (0 ∷ 0 ∷ 0 ∷ 0 ∷ 0 ∷ 0 ∷ 0 ∷ 0 ∷ 0 ∷ 0 ∷ []) ∷ node 33188 1 0 (0 ∷ 0 ∷ 0 ∷ 0 ∷ 0 ∷ 0 ∷ 0 ∷ 0 ∷ 0 ∷ 0 ∷ []) ∷ []) (zone_with 8 (file 1024 (piece 0 (hex 3 0x01002e) ∷ piece 32 (hex 4 0x01002e2e) ∷ piece 64 (hex 3 0x020061) ∷ piece 128 (hex 3 0x030062) ∷ [])) ∷ []) (1 ∷ 2 ∷ 3 ∷ []) (8 ∷ [])) (taken_by [] [] [] []) (wish 8192 (7 ∷ []) 1 (codes "new")) ≡ Ok (choice 4 3 (up_from 9 7) (up_from 9 7 ++ ((0 ∷ []))) (0 ∷ []) [])
unfolding number16 number32 number_in follow pointer_by inside follow_at zone_at block_at entry_of entry_at find_entry data_blocks made_above made_indirect all_entries has_name is_overlooked is_promised new_place way_along missing_on_way promised_zone free_inode left_zones name_check file_need choice_with zones_check choose_blocks choose taken_with branch_of
minix_choose_eight_blocks_of_which_the_eighth_is_a_hole_in_version_2_with_long_names = refl

-- no inode in version 2 with long names
pub minix_choose_no_inode_in_version_2_with_long_names : choose_on (volume_by (super_with V2Long 4 64 1 1 8) (node 16877 2 128 (8 ∷ 0 ∷ 0 ∷ 0 ∷ 0 ∷ 0 ∷ 0 ∷ 0 ∷ 0 ∷ 0 ∷ []) ∷ node 33188 1 0 (0 ∷ 0 ∷ 0 ∷ 0 ∷ 0 ∷ 0 ∷ 0 ∷ 0 ∷ 0 ∷ 0 ∷ []) ∷ node 33188 1 0 (0 ∷ 0 ∷ 0 ∷ 0 ∷ 0 ∷ 0 ∷ 0 ∷ 0 ∷ 0 ∷ 0 ∷ []) ∷ []) (zone_with 8 (file 1024 (piece 0 (hex 3 0x01002e) ∷ piece 32 (hex 4 0x01002e2e) ∷ piece 64 (hex 3 0x020061) ∷ piece 96 (hex 3 0x030062) ∷ [])) ∷ []) (1 ∷ 2 ∷ 3 ∷ 4 ∷ []) (8 ∷ [])) (taken_by [] [] [] []) (wish 10 [] 1 (codes "new")) ≡ Err NoInode
unfolding number16 number32 number_in follow pointer_by inside follow_at zone_at block_at entry_of entry_at find_entry data_blocks made_above made_indirect all_entries has_name is_overlooked is_promised new_place way_along missing_on_way promised_zone free_inode left_zones name_check file_need choice_with zones_check choose_blocks choose taken_with branch_of
minix_choose_no_inode_in_version_2_with_long_names = refl

-- no inode for a name that is there in version 2 with long names
pub minix_choose_no_inode_for_a_name_that_is_there_in_version_2_with_long_names : choose_on (volume_by (super_with V2Long 4 64 1 1 8) (node 16877 2 128 (8 ∷ 0 ∷ 0 ∷ 0 ∷ 0 ∷ 0 ∷ 0 ∷ 0 ∷ 0 ∷ 0 ∷ []) ∷ node 33188 1 0 (0 ∷ 0 ∷ 0 ∷ 0 ∷ 0 ∷ 0 ∷ 0 ∷ 0 ∷ 0 ∷ 0 ∷ []) ∷ node 33188 1 0 (0 ∷ 0 ∷ 0 ∷ 0 ∷ 0 ∷ 0 ∷ 0 ∷ 0 ∷ 0 ∷ 0 ∷ []) ∷ []) (zone_with 8 (file 1024 (piece 0 (hex 3 0x01002e) ∷ piece 32 (hex 4 0x01002e2e) ∷ piece 64 (hex 3 0x020061) ∷ piece 96 (hex 3 0x030062) ∷ [])) ∷ []) (1 ∷ 2 ∷ 3 ∷ 4 ∷ []) (8 ∷ [])) (taken_by [] [] [] []) (wish 10 [] 1 (codes "a")) ≡ Err Exists
unfolding number16 number32 number_in follow pointer_by inside follow_at zone_at block_at entry_of entry_at find_entry data_blocks made_above made_indirect all_entries has_name is_overlooked is_promised new_place way_along missing_on_way promised_zone free_inode left_zones name_check file_need choice_with zones_check choose_blocks choose taken_with branch_of
minix_choose_no_inode_for_a_name_that_is_there_in_version_2_with_long_names = refl

-- bits without a use in version 2 with long names
pub minix_choose_bits_without_a_use_in_version_2_with_long_names : choose_on (volume_by (super_with V2Long 16 64 1 1 8) (node 16877 2 96 (8 ∷ 0 ∷ 0 ∷ 0 ∷ 0 ∷ 0 ∷ 0 ∷ 0 ∷ 0 ∷ 0 ∷ []) ∷ node 33188 1 0 (0 ∷ 0 ∷ 0 ∷ 0 ∷ 0 ∷ 0 ∷ 0 ∷ 0 ∷ 0 ∷ 0 ∷ []) ∷ []) (zone_with 8 (file 1024 (piece 0 (hex 3 0x01002e) ∷ piece 32 (hex 4 0x01002e2e) ∷ piece 64 (hex 3 0x020061) ∷ [])) ∷ []) (1 ∷ 2 ∷ 3 ∷ 5 ∷ []) (8 ∷ 9 ∷ 11 ∷ 12 ∷ [])) (taken_by [] [] [] []) (wish 3000 [] 1 (codes "new")) ≡ Ok (choice 4 3 (10 ∷ 13 ∷ 14 ∷ []) (10 ∷ 13 ∷ 14 ∷ []) [] [])
unfolding number16 number32 number_in follow pointer_by inside follow_at zone_at block_at entry_of entry_at find_entry data_blocks made_above made_indirect all_entries has_name is_overlooked is_promised new_place way_along missing_on_way promised_zone free_inode left_zones name_check file_need choice_with zones_check choose_blocks choose taken_with branch_of
minix_choose_bits_without_a_use_in_version_2_with_long_names = refl

-- two zones for three blocks in version 2 with long names
pub minix_choose_two_zones_for_three_blocks_in_version_2_with_long_names : choose_on (volume_by (super_with V2Long 16 11 1 1 8) (node 16877 2 64 (8 ∷ 0 ∷ 0 ∷ 0 ∷ 0 ∷ 0 ∷ 0 ∷ 0 ∷ 0 ∷ 0 ∷ []) ∷ []) (zone_with 8 (file 1024 (piece 0 (hex 3 0x01002e) ∷ piece 32 (hex 4 0x01002e2e) ∷ [])) ∷ []) (1 ∷ []) (8 ∷ [])) (taken_by [] [] [] []) (wish 3000 [] 1 (codes "new")) ≡ Err (NoSpace 3 2)
unfolding number16 number32 number_in follow pointer_by inside follow_at zone_at block_at entry_of entry_at find_entry data_blocks made_above made_indirect all_entries has_name is_overlooked is_promised new_place way_along missing_on_way promised_zone free_inode left_zones name_check file_need choice_with zones_check choose_blocks choose taken_with branch_of
minix_choose_two_zones_for_three_blocks_in_version_2_with_long_names = refl

-- two zones for two blocks in version 2 with long names
pub minix_choose_two_zones_for_two_blocks_in_version_2_with_long_names : choose_on (volume_by (super_with V2Long 16 11 1 1 8) (node 16877 2 64 (8 ∷ 0 ∷ 0 ∷ 0 ∷ 0 ∷ 0 ∷ 0 ∷ 0 ∷ 0 ∷ 0 ∷ []) ∷ []) (zone_with 8 (file 1024 (piece 0 (hex 3 0x01002e) ∷ piece 32 (hex 4 0x01002e2e) ∷ [])) ∷ []) (1 ∷ []) (8 ∷ [])) (taken_by [] [] [] []) (wish 2048 [] 1 (codes "new")) ≡ Ok (choice 2 2 (9 ∷ 10 ∷ []) (9 ∷ 10 ∷ []) [] [])
unfolding number16 number32 number_in follow pointer_by inside follow_at zone_at block_at entry_of entry_at find_entry data_blocks made_above made_indirect all_entries has_name is_overlooked is_promised new_place way_along missing_on_way promised_zone free_inode left_zones name_check file_need choice_with zones_check choose_blocks choose taken_with branch_of
minix_choose_two_zones_for_two_blocks_in_version_2_with_long_names = refl

-- a zone too few for the indirect one in version 2 with long names
pub minix_choose_a_zone_too_few_for_the_indirect_one_in_version_2_with_long_names : choose_on (volume_by (super_with V2Long 16 17 1 1 8) (node 16877 2 64 (8 ∷ 0 ∷ 0 ∷ 0 ∷ 0 ∷ 0 ∷ 0 ∷ 0 ∷ 0 ∷ 0 ∷ []) ∷ []) (zone_with 8 (file 1024 (piece 0 (hex 3 0x01002e) ∷ piece 32 (hex 4 0x01002e2e) ∷ [])) ∷ []) (1 ∷ []) (8 ∷ [])) (taken_by [] [] [] []) (wish 8192 [] 1 (codes "new")) ≡ Err (NoSpace 9 8)
unfolding number16 number32 number_in follow pointer_by inside follow_at zone_at block_at entry_of entry_at find_entry data_blocks made_above made_indirect all_entries has_name is_overlooked is_promised new_place way_along missing_on_way promised_zone free_inode left_zones name_check file_need choice_with zones_check choose_blocks choose taken_with branch_of
minix_choose_a_zone_too_few_for_the_indirect_one_in_version_2_with_long_names = refl

-- growth where the zone is there in version 2 with long names
pub minix_choose_growth_where_the_zone_is_there_in_version_2_with_long_names : choose_on (volume_by (super_with V2Long 16 64 1 1 8) (node 16877 2 64 (8 ∷ 0 ∷ 0 ∷ 0 ∷ 0 ∷ 0 ∷ 0 ∷ 0 ∷ 0 ∷ 0 ∷ []) ∷ []) (zone_with 8 (file 1024 (piece 0 (hex 3 0x01002e) ∷ piece 32 (hex 4 0x01002e2e) ∷ [])) ∷ []) (1 ∷ []) (8 ∷ [])) (taken_by [] [] [] []) (wish 1 [] 1 (codes "new")) ≡ Ok (choice 2 2 (9 ∷ []) (9 ∷ []) [] [])
unfolding number16 number32 number_in follow pointer_by inside follow_at zone_at block_at entry_of entry_at find_entry data_blocks made_above made_indirect all_entries has_name is_overlooked is_promised new_place way_along missing_on_way promised_zone free_inode left_zones name_check file_need choice_with zones_check choose_blocks choose taken_with branch_of
minix_choose_growth_where_the_zone_is_there_in_version_2_with_long_names = refl

-- growth by a zone in version 2 with long names
pub minix_choose_growth_by_a_zone_in_version_2_with_long_names : choose_on (volume_by (super_with V2Long 80 64 1 1 8) (node 16877 2 1024 (8 ∷ 0 ∷ 0 ∷ 0 ∷ 0 ∷ 0 ∷ 0 ∷ 0 ∷ 0 ∷ 0 ∷ []) ∷ node 33188 1 0 (0 ∷ 0 ∷ 0 ∷ 0 ∷ 0 ∷ 0 ∷ 0 ∷ 0 ∷ 0 ∷ 0 ∷ []) ∷ node 33188 1 0 (0 ∷ 0 ∷ 0 ∷ 0 ∷ 0 ∷ 0 ∷ 0 ∷ 0 ∷ 0 ∷ 0 ∷ []) ∷ node 33188 1 0 (0 ∷ 0 ∷ 0 ∷ 0 ∷ 0 ∷ 0 ∷ 0 ∷ 0 ∷ 0 ∷ 0 ∷ []) ∷ node 33188 1 0 (0 ∷ 0 ∷ 0 ∷ 0 ∷ 0 ∷ 0 ∷ 0 ∷ 0 ∷ 0 ∷ 0 ∷ []) ∷ node 33188 1 0 (0 ∷ 0 ∷ 0 ∷ 0 ∷ 0 ∷ 0 ∷ 0 ∷ 0 ∷ 0 ∷ 0 ∷ []) ∷ node 33188 1 0 (0 ∷ 0 ∷ 0 ∷ 0 ∷ 0 ∷ 0 ∷ 0 ∷ 0 ∷ 0 ∷ 0 ∷ []) ∷ node 33188 1 0 (0 ∷ 0 ∷ 0 ∷ 0 ∷ 0 ∷ 0 ∷ 0 ∷ 0 ∷ 0 ∷ 0 ∷ []) ∷ node 33188 1 0 (0 ∷ 0 ∷ 0 ∷ 0 ∷ 0 ∷ 0 ∷ 0 ∷ 0 ∷ 0 ∷ 0 ∷ []) ∷ node 33188 1 0 (0 ∷ 0 ∷ 0 ∷ 0 ∷ 0 ∷ 0 ∷ 0 ∷ 0 ∷ 0 ∷ 0 ∷ []) ∷ node 33188 1 0 (0 ∷ 0 ∷ 0 ∷ 0 ∷ 0 ∷ 0 ∷ 0 ∷ 0 ∷ 0 ∷ 0 ∷ []) ∷ node 33188 1 0 (0 ∷ 0 ∷ 0 ∷ 0 ∷ 0 ∷ 0 ∷ 0 ∷ 0 ∷ 0 ∷ 0 ∷ []) ∷ node 33188 1 0 (0 ∷ 0 ∷ 0 ∷ 0 ∷ 0 ∷ 0 ∷ 0 ∷ 0 ∷ 0 ∷ 0 ∷ []) ∷ node 33188 1 0 (0 ∷ 0 ∷ 0 ∷ 0 ∷ 0 ∷ 0 ∷ 0 ∷ 0 ∷ 0 ∷ 0 ∷ []) ∷ node 33188 1 0 (0 ∷ 0 ∷ 0 ∷ 0 ∷ 0 ∷ 0 ∷ 0 ∷ 0 ∷ 0 ∷ 0 ∷ []) ∷ node 33188 1 0 (0 ∷ 0 ∷ 0 ∷ 0 ∷ 0 ∷ 0 ∷ 0 ∷ 0 ∷ 0 ∷ 0 ∷ []) ∷ node 33188 1 0 (0 ∷ 0 ∷ 0 ∷ 0 ∷ 0 ∷ 0 ∷ 0 ∷ 0 ∷ 0 ∷ 0 ∷ []) ∷ node 33188 1 0 (0 ∷ 0 ∷ 0 ∷ 0 ∷ 0 ∷ 0 ∷ 0 ∷ 0 ∷ 0 ∷ 0 ∷ []) ∷ node 33188 1 0 (0 ∷ 0 ∷ 0 ∷ 0 ∷ 0 ∷ 0 ∷ 0 ∷ 0 ∷ 0 ∷ 0 ∷ []) ∷ node 33188 1 0 (0 ∷ 0 ∷ 0 ∷ 0 ∷ 0 ∷ 0 ∷ 0 ∷ 0 ∷ 0 ∷ 0 ∷ []) ∷ node 33188 1 0 (0 ∷ 0 ∷ 0 ∷ 0 ∷ 0 ∷ 0 ∷ 0 ∷ 0 ∷ 0 ∷ 0 ∷ []) ∷ node 33188 1 0 (0 ∷ 0 ∷ 0 ∷ 0 ∷ 0 ∷ 0 ∷ 0 ∷ 0 ∷ 0 ∷ 0 ∷ []) ∷ node 33188 1 0 (0 ∷ 0 ∷ 0 ∷ 0 ∷ 0 ∷ 0 ∷ 0 ∷ 0 ∷ 0 ∷ 0 ∷ []) ∷ node 33188 1 0 (0 ∷ 0 ∷ 0 ∷ 0 ∷ 0 ∷ 0 ∷ 0 ∷ 0 ∷ 0 ∷ 0 ∷ []) ∷ node 33188 1 0 (0 ∷ 0 ∷ 0 ∷ 0 ∷ 0 ∷ 0 ∷ 0 ∷ 0 ∷ 0 ∷ 0 ∷ []) ∷ node 33188 1 0 (0 ∷ 0 ∷ 0 ∷ 0 ∷ 0 ∷ 0 ∷ 0 ∷ 0 ∷ 0 ∷ 0 ∷ []) ∷ node 33188 1 0 (0 ∷ 0 ∷ 0 ∷ 0 ∷ 0 ∷ 0 ∷ 0 ∷ 0 ∷ 0 ∷ 0 ∷ []) ∷ node 33188 1 0 (0 ∷ 0 ∷ 0 ∷ 0 ∷ 0 ∷ 0 ∷ 0 ∷ 0 ∷ 0 ∷ 0 ∷ []) ∷ node 33188 1 0 (0 ∷ 0 ∷ 0 ∷ 0 ∷ 0 ∷ 0 ∷ 0 ∷ 0 ∷ 0 ∷ 0 ∷ []) ∷ node 33188 1 0 (0 ∷ 0 ∷ 0 ∷ 0 ∷ 0 ∷ 0 ∷ 0 ∷ 0 ∷ 0 ∷ 0 ∷ []) ∷ node 33188 1 0 (0 ∷ 0 ∷ 0 ∷ 0 ∷ 0 ∷ 0 ∷ 0 ∷ 0 ∷ 0 ∷ 0 ∷ []) ∷ []) (zone_with 8 (file 1024 (piece 0 (hex 3 0x01002e) ∷ piece 32 (hex 4 0x01002e2e) ∷ piece 64 (hex 4 0x02006630) ∷ piece 96 (hex 4 0x03006631) ∷ piece 128 (hex 4 0x04006632) ∷ piece 160 (hex 4 0x05006633) ∷ piece 192 (hex 4 0x06006634) ∷ piece 224 (hex 4 0x07006635) ∷ piece 256 (hex 4 0x08006636) ∷ piece 288 (hex 4 0x09006637) ∷ piece 320 (hex 4 0x0a006638) ∷ piece 352 (hex 4 0x0b006639) ∷ piece 384 (hex 5 0x0c00663130) ∷ piece 416 (hex 5 0x0d00663131) ∷ piece 448 (hex 5 0x0e00663132) ∷ piece 480 (hex 5 0x0f00663133) ∷ piece 512 (hex 5 0x1000663134) ∷ piece 544 (hex 5 0x1100663135) ∷ piece 576 (hex 5 0x1200663136) ∷ piece 608 (hex 5 0x1300663137) ∷ piece 640 (hex 5 0x1400663138) ∷ piece 672 (hex 5 0x1500663139) ∷ piece 704 (hex 5 0x1600663230) ∷ piece 736 (hex 5 0x1700663231) ∷ piece 768 (hex 5 0x1800663232) ∷ piece 800 (hex 5 0x1900663233) ∷ piece 832 (hex 5 0x1a00663234) ∷ piece 864 (hex 5 0x1b00663235) ∷ piece 896 (hex 5 0x1c00663236) ∷ piece 928 (hex 5 0x1d00663237) ∷ piece 960 (hex 5 0x1e00663238) ∷ piece 992 (hex 5 0x1f00663239) ∷ [])) ∷ []) (1 ∷ 2 ∷ 3 ∷ 4 ∷ 5 ∷ 6 ∷ 7 ∷ 8 ∷ 9 ∷ 10 ∷ 11 ∷ 12 ∷ 13 ∷ 14 ∷ 15 ∷ 16 ∷ 17 ∷ 18 ∷ 19 ∷ 20 ∷ 21 ∷ 22 ∷ 23 ∷ 24 ∷ 25 ∷ 26 ∷ 27 ∷ 28 ∷ 29 ∷ 30 ∷ 31 ∷ []) (8 ∷ [])) (taken_by [] [] [] []) (wish 1 [] 1 (codes "new")) ≡ Ok (choice 32 32 (9 ∷ 10 ∷ []) (9 ∷ []) [] (10 ∷ []))
unfolding number16 number32 number_in follow pointer_by inside follow_at zone_at block_at entry_of entry_at find_entry data_blocks made_above made_indirect all_entries has_name is_overlooked is_promised new_place way_along missing_on_way promised_zone free_inode left_zones name_check file_need choice_with zones_check choose_blocks choose taken_with branch_of
minix_choose_growth_by_a_zone_in_version_2_with_long_names = refl

-- a second file in the zone that was promised in version 2 with long names
pub minix_choose_a_second_file_in_the_zone_that_was_promised_in_version_2_with_long_names : choose_on (volume_by (super_with V2Long 80 64 1 1 8) (node 16877 2 1024 (8 ∷ 0 ∷ 0 ∷ 0 ∷ 0 ∷ 0 ∷ 0 ∷ 0 ∷ 0 ∷ 0 ∷ []) ∷ node 33188 1 0 (0 ∷ 0 ∷ 0 ∷ 0 ∷ 0 ∷ 0 ∷ 0 ∷ 0 ∷ 0 ∷ 0 ∷ []) ∷ node 33188 1 0 (0 ∷ 0 ∷ 0 ∷ 0 ∷ 0 ∷ 0 ∷ 0 ∷ 0 ∷ 0 ∷ 0 ∷ []) ∷ node 33188 1 0 (0 ∷ 0 ∷ 0 ∷ 0 ∷ 0 ∷ 0 ∷ 0 ∷ 0 ∷ 0 ∷ 0 ∷ []) ∷ node 33188 1 0 (0 ∷ 0 ∷ 0 ∷ 0 ∷ 0 ∷ 0 ∷ 0 ∷ 0 ∷ 0 ∷ 0 ∷ []) ∷ node 33188 1 0 (0 ∷ 0 ∷ 0 ∷ 0 ∷ 0 ∷ 0 ∷ 0 ∷ 0 ∷ 0 ∷ 0 ∷ []) ∷ node 33188 1 0 (0 ∷ 0 ∷ 0 ∷ 0 ∷ 0 ∷ 0 ∷ 0 ∷ 0 ∷ 0 ∷ 0 ∷ []) ∷ node 33188 1 0 (0 ∷ 0 ∷ 0 ∷ 0 ∷ 0 ∷ 0 ∷ 0 ∷ 0 ∷ 0 ∷ 0 ∷ []) ∷ node 33188 1 0 (0 ∷ 0 ∷ 0 ∷ 0 ∷ 0 ∷ 0 ∷ 0 ∷ 0 ∷ 0 ∷ 0 ∷ []) ∷ node 33188 1 0 (0 ∷ 0 ∷ 0 ∷ 0 ∷ 0 ∷ 0 ∷ 0 ∷ 0 ∷ 0 ∷ 0 ∷ []) ∷ node 33188 1 0 (0 ∷ 0 ∷ 0 ∷ 0 ∷ 0 ∷ 0 ∷ 0 ∷ 0 ∷ 0 ∷ 0 ∷ []) ∷ node 33188 1 0 (0 ∷ 0 ∷ 0 ∷ 0 ∷ 0 ∷ 0 ∷ 0 ∷ 0 ∷ 0 ∷ 0 ∷ []) ∷ node 33188 1 0 (0 ∷ 0 ∷ 0 ∷ 0 ∷ 0 ∷ 0 ∷ 0 ∷ 0 ∷ 0 ∷ 0 ∷ []) ∷ node 33188 1 0 (0 ∷ 0 ∷ 0 ∷ 0 ∷ 0 ∷ 0 ∷ 0 ∷ 0 ∷ 0 ∷ 0 ∷ []) ∷ node 33188 1 0 (0 ∷ 0 ∷ 0 ∷ 0 ∷ 0 ∷ 0 ∷ 0 ∷ 0 ∷ 0 ∷ 0 ∷ []) ∷ node 33188 1 0 (0 ∷ 0 ∷ 0 ∷ 0 ∷ 0 ∷ 0 ∷ 0 ∷ 0 ∷ 0 ∷ 0 ∷ []) ∷ node 33188 1 0 (0 ∷ 0 ∷ 0 ∷ 0 ∷ 0 ∷ 0 ∷ 0 ∷ 0 ∷ 0 ∷ 0 ∷ []) ∷ node 33188 1 0 (0 ∷ 0 ∷ 0 ∷ 0 ∷ 0 ∷ 0 ∷ 0 ∷ 0 ∷ 0 ∷ 0 ∷ []) ∷ node 33188 1 0 (0 ∷ 0 ∷ 0 ∷ 0 ∷ 0 ∷ 0 ∷ 0 ∷ 0 ∷ 0 ∷ 0 ∷ []) ∷ node 33188 1 0 (0 ∷ 0 ∷ 0 ∷ 0 ∷ 0 ∷ 0 ∷ 0 ∷ 0 ∷ 0 ∷ 0 ∷ []) ∷ node 33188 1 0 (0 ∷ 0 ∷ 0 ∷ 0 ∷ 0 ∷ 0 ∷ 0 ∷ 0 ∷ 0 ∷ 0 ∷ []) ∷ node 33188 1 0 (0 ∷ 0 ∷ 0 ∷ 0 ∷ 0 ∷ 0 ∷ 0 ∷ 0 ∷ 0 ∷ 0 ∷ []) ∷ node 33188 1 0 (0 ∷ 0 ∷ 0 ∷ 0 ∷ 0 ∷ 0 ∷ 0 ∷ 0 ∷ 0 ∷ 0 ∷ []) ∷ node 33188 1 0 (0 ∷ 0 ∷ 0 ∷ 0 ∷ 0 ∷ 0 ∷ 0 ∷ 0 ∷ 0 ∷ 0 ∷ []) ∷ node 33188 1 0 (0 ∷ 0 ∷ 0 ∷ 0 ∷ 0 ∷ 0 ∷ 0 ∷ 0 ∷ 0 ∷ 0 ∷ []) ∷ node 33188 1 0 (0 ∷ 0 ∷ 0 ∷ 0 ∷ 0 ∷ 0 ∷ 0 ∷ 0 ∷ 0 ∷ 0 ∷ []) ∷ node 33188 1 0 (0 ∷ 0 ∷ 0 ∷ 0 ∷ 0 ∷ 0 ∷ 0 ∷ 0 ∷ 0 ∷ 0 ∷ []) ∷ node 33188 1 0 (0 ∷ 0 ∷ 0 ∷ 0 ∷ 0 ∷ 0 ∷ 0 ∷ 0 ∷ 0 ∷ 0 ∷ []) ∷ node 33188 1 0 (0 ∷ 0 ∷ 0 ∷ 0 ∷ 0 ∷ 0 ∷ 0 ∷ 0 ∷ 0 ∷ 0 ∷ []) ∷ node 33188 1 0 (0 ∷ 0 ∷ 0 ∷ 0 ∷ 0 ∷ 0 ∷ 0 ∷ 0 ∷ 0 ∷ 0 ∷ []) ∷ node 33188 1 0 (0 ∷ 0 ∷ 0 ∷ 0 ∷ 0 ∷ 0 ∷ 0 ∷ 0 ∷ 0 ∷ 0 ∷ []) ∷ []) (zone_with 8 (file 1024 (piece 0 (hex 3 0x01002e) ∷ piece 32 (hex 4 0x01002e2e) ∷ piece 64 (hex 4 0x02006630) ∷ piece 96 (hex 4 0x03006631) ∷ piece 128 (hex 4 0x04006632) ∷ piece 160 (hex 4 0x05006633) ∷ piece 192 (hex 4 0x06006634) ∷ piece 224 (hex 4 0x07006635) ∷ piece 256 (hex 4 0x08006636) ∷ piece 288 (hex 4 0x09006637) ∷ piece 320 (hex 4 0x0a006638) ∷ piece 352 (hex 4 0x0b006639) ∷ piece 384 (hex 5 0x0c00663130) ∷ piece 416 (hex 5 0x0d00663131) ∷ piece 448 (hex 5 0x0e00663132) ∷ piece 480 (hex 5 0x0f00663133) ∷ piece 512 (hex 5 0x1000663134) ∷ piece 544 (hex 5 0x1100663135) ∷ piece 576 (hex 5 0x1200663136) ∷ piece 608 (hex 5 0x1300663137) ∷ piece 640 (hex 5 0x1400663138) ∷ piece 672 (hex 5 0x1500663139) ∷ piece 704 (hex 5 0x1600663230) ∷ piece 736 (hex 5 0x1700663231) ∷ piece 768 (hex 5 0x1800663232) ∷ piece 800 (hex 5 0x1900663233) ∷ piece 832 (hex 5 0x1a00663234) ∷ piece 864 (hex 5 0x1b00663235) ∷ piece 896 (hex 5 0x1c00663236) ∷ piece 928 (hex 5 0x1d00663237) ∷ piece 960 (hex 5 0x1e00663238) ∷ piece 992 (hex 5 0x1f00663239) ∷ [])) ∷ []) (1 ∷ 2 ∷ 3 ∷ 4 ∷ 5 ∷ 6 ∷ 7 ∷ 8 ∷ 9 ∷ 10 ∷ 11 ∷ 12 ∷ 13 ∷ 14 ∷ 15 ∷ 16 ∷ 17 ∷ 18 ∷ 19 ∷ 20 ∷ 21 ∷ 22 ∷ 23 ∷ 24 ∷ 25 ∷ 26 ∷ 27 ∷ 28 ∷ 29 ∷ 30 ∷ 31 ∷ []) (8 ∷ [])) (taken_by (9 ∷ 10 ∷ []) (32 ∷ []) (promise 1 32 (10 ∷ []) ∷ []) []) (wish 1 [] 1 (codes "newer")) ≡ Ok (choice 33 33 (11 ∷ []) (11 ∷ []) [] (10 ∷ []))
unfolding number16 number32 number_in follow pointer_by inside follow_at zone_at block_at entry_of entry_at find_entry data_blocks made_above made_indirect all_entries has_name is_overlooked is_promised new_place way_along missing_on_way promised_zone free_inode left_zones name_check file_need choice_with zones_check choose_blocks choose taken_with branch_of
minix_choose_a_second_file_in_the_zone_that_was_promised_in_version_2_with_long_names = refl

-- a place in a hole of a directory in version 2 with long names
pub minix_choose_a_place_in_a_hole_of_a_directory_in_version_2_with_long_names : choose_on (volume_by (super_with V2Long 16 64 1 1 8) (node 16877 2 3072 (8 ∷ 0 ∷ 9 ∷ 0 ∷ 0 ∷ 0 ∷ 0 ∷ 0 ∷ 0 ∷ 0 ∷ []) ∷ []) (zone_with 8 (file 1024 (piece 0 (hex 3 0x01002e) ∷ piece 32 (hex 4 0x01002e2e) ∷ piece 64 (replicate 960 1) ∷ [])) ∷ zone_with 9 (replicate 1024 1) ∷ []) (1 ∷ []) (8 ∷ 9 ∷ [])) (taken_by [] [] [] []) (wish 1 [] 1 (codes "new")) ≡ Ok (choice 2 32 (10 ∷ 11 ∷ []) (10 ∷ []) [] (11 ∷ []))
unfolding number16 number32 number_in follow pointer_by inside follow_at zone_at block_at entry_of entry_at find_entry data_blocks made_above made_indirect all_entries has_name is_overlooked is_promised new_place way_along missing_on_way promised_zone free_inode left_zones name_check file_need choice_with zones_check choose_blocks choose taken_with branch_of
minix_choose_a_place_in_a_hole_of_a_directory_in_version_2_with_long_names = refl

-- a second place in that hole in version 2 with long names
pub minix_choose_a_second_place_in_that_hole_in_version_2_with_long_names : choose_on (volume_by (super_with V2Long 16 64 1 1 8) (node 16877 2 3072 (8 ∷ 0 ∷ 9 ∷ 0 ∷ 0 ∷ 0 ∷ 0 ∷ 0 ∷ 0 ∷ 0 ∷ []) ∷ []) (zone_with 8 (file 1024 (piece 0 (hex 3 0x01002e) ∷ piece 32 (hex 4 0x01002e2e) ∷ piece 64 (replicate 960 1) ∷ [])) ∷ zone_with 9 (replicate 1024 1) ∷ []) (1 ∷ []) (8 ∷ 9 ∷ [])) (taken_by (10 ∷ 11 ∷ []) (2 ∷ []) (promise 1 32 (11 ∷ []) ∷ []) []) (wish 1 [] 1 (codes "newer")) ≡ Ok (choice 3 33 (12 ∷ []) (12 ∷ []) [] (11 ∷ []))
unfolding number16 number32 number_in follow pointer_by inside follow_at zone_at block_at entry_of entry_at find_entry data_blocks made_above made_indirect all_entries has_name is_overlooked is_promised new_place way_along missing_on_way promised_zone free_inode left_zones name_check file_need choice_with zones_check choose_blocks choose taken_with branch_of
minix_choose_a_second_place_in_that_hole_in_version_2_with_long_names = refl

-- zones kept out in version 2 with long names
pub minix_choose_zones_kept_out_in_version_2_with_long_names : choose_on (volume_by (super_with V2Long 16 64 1 1 8) (node 16877 2 96 (8 ∷ 0 ∷ 0 ∷ 0 ∷ 0 ∷ 0 ∷ 0 ∷ 0 ∷ 0 ∷ 0 ∷ []) ∷ node 33188 1 0 (0 ∷ 0 ∷ 0 ∷ 0 ∷ 0 ∷ 0 ∷ 0 ∷ 0 ∷ 0 ∷ 0 ∷ []) ∷ []) (zone_with 8 (file 1024 (piece 0 (hex 3 0x01002e) ∷ piece 32 (hex 4 0x01002e2e) ∷ piece 64 (hex 3 0x020061) ∷ [])) ∷ []) (1 ∷ 2 ∷ []) (8 ∷ [])) (taken_by (9 ∷ 12 ∷ []) [] [] []) (wish 3000 [] 1 (codes "new")) ≡ Ok (choice 3 3 (10 ∷ 11 ∷ 13 ∷ []) (10 ∷ 11 ∷ 13 ∷ []) [] [])
unfolding number16 number32 number_in follow pointer_by inside follow_at zone_at block_at entry_of entry_at find_entry data_blocks made_above made_indirect all_entries has_name is_overlooked is_promised new_place way_along missing_on_way promised_zone free_inode left_zones name_check file_need choice_with zones_check choose_blocks choose taken_with branch_of
minix_choose_zones_kept_out_in_version_2_with_long_names = refl

-- what was promised is kept out in version 2 with long names
pub minix_choose_what_was_promised_is_kept_out_in_version_2_with_long_names : choose_on (volume_by (super_with V2Long 16 64 1 1 8) (node 16877 2 96 (8 ∷ 0 ∷ 0 ∷ 0 ∷ 0 ∷ 0 ∷ 0 ∷ 0 ∷ 0 ∷ 0 ∷ []) ∷ node 33188 1 0 (0 ∷ 0 ∷ 0 ∷ 0 ∷ 0 ∷ 0 ∷ 0 ∷ 0 ∷ 0 ∷ 0 ∷ []) ∷ []) (zone_with 8 (file 1024 (piece 0 (hex 3 0x01002e) ∷ piece 32 (hex 4 0x01002e2e) ∷ piece 64 (hex 3 0x020061) ∷ [])) ∷ []) (1 ∷ 2 ∷ []) (8 ∷ [])) (taken_by (9 ∷ 10 ∷ 11 ∷ 12 ∷ 13 ∷ []) (3 ∷ []) (promise 1 3 [] ∷ []) []) (wish 2000 [] 1 (codes "newer")) ≡ Ok (choice 4 4 (14 ∷ 15 ∷ []) (14 ∷ 15 ∷ []) [] [])
unfolding number16 number32 number_in follow pointer_by inside follow_at zone_at block_at entry_of entry_at find_entry data_blocks made_above made_indirect all_entries has_name is_overlooked is_promised new_place way_along missing_on_way promised_zone free_inode left_zones name_check file_need choice_with zones_check choose_blocks choose taken_with branch_of
minix_choose_what_was_promised_is_kept_out_in_version_2_with_long_names = refl

-- a name that is overlooked in version 2 with long names
pub minix_choose_a_name_that_is_overlooked_in_version_2_with_long_names : choose_on (volume_by (super_with V2Long 16 64 1 1 8) (node 16877 2 96 (8 ∷ 0 ∷ 0 ∷ 0 ∷ 0 ∷ 0 ∷ 0 ∷ 0 ∷ 0 ∷ 0 ∷ []) ∷ node 33188 1 0 (0 ∷ 0 ∷ 0 ∷ 0 ∷ 0 ∷ 0 ∷ 0 ∷ 0 ∷ 0 ∷ 0 ∷ []) ∷ []) (zone_with 8 (file 1024 (piece 0 (hex 3 0x01002e) ∷ piece 32 (hex 4 0x01002e2e) ∷ piece 64 (hex 3 0x020061) ∷ [])) ∷ []) (1 ∷ 2 ∷ []) (8 ∷ [])) (taken_by [] [] [] (overlook 1 (codes "a") ∷ [])) (wish 10 [] 1 (codes "a")) ≡ Ok (choice 3 3 (9 ∷ []) (9 ∷ []) [] [])
unfolding number16 number32 number_in follow pointer_by inside follow_at zone_at block_at entry_of entry_at find_entry data_blocks made_above made_indirect all_entries has_name is_overlooked is_promised new_place way_along missing_on_way promised_zone free_inode left_zones name_check file_need choice_with zones_check choose_blocks choose taken_with branch_of
minix_choose_a_name_that_is_overlooked_in_version_2_with_long_names = refl

-- a name overlooked elsewhere in version 2 with long names
pub minix_choose_a_name_overlooked_elsewhere_in_version_2_with_long_names : choose_on (volume_by (super_with V2Long 16 64 1 1 8) (node 16877 2 96 (8 ∷ 0 ∷ 0 ∷ 0 ∷ 0 ∷ 0 ∷ 0 ∷ 0 ∷ 0 ∷ 0 ∷ []) ∷ node 33188 1 0 (0 ∷ 0 ∷ 0 ∷ 0 ∷ 0 ∷ 0 ∷ 0 ∷ 0 ∷ 0 ∷ 0 ∷ []) ∷ []) (zone_with 8 (file 1024 (piece 0 (hex 3 0x01002e) ∷ piece 32 (hex 4 0x01002e2e) ∷ piece 64 (hex 3 0x020061) ∷ [])) ∷ []) (1 ∷ 2 ∷ []) (8 ∷ [])) (taken_by [] [] [] (overlook 2 (codes "a") ∷ overlook 1 (codes "A") ∷ [])) (wish 10 [] 1 (codes "a")) ≡ Err Exists
unfolding number16 number32 number_in follow pointer_by inside follow_at zone_at block_at entry_of entry_at find_entry data_blocks made_above made_indirect all_entries has_name is_overlooked is_promised new_place way_along missing_on_way promised_zone free_inode left_zones name_check file_need choice_with zones_check choose_blocks choose taken_with branch_of
minix_choose_a_name_overlooked_elsewhere_in_version_2_with_long_names = refl

-- growth with an indirect zone in version 1 with short names
pub minix_choose_growth_with_an_indirect_zone_in_version_1_with_short_names : choose_on (volume_by (super_with V1Short 16 64 1 1 8) (node 16877 2 7168 (8 ∷ 8 ∷ 8 ∷ 8 ∷ 8 ∷ 8 ∷ 8 ∷ 0 ∷ 0 ∷ 0 ∷ []) ∷ []) (zone_with 8 (replicate 1024 1) ∷ []) (1 ∷ []) (8 ∷ [])) (taken_by [] [] [] []) (wish 1 [] 1 (codes "new")) ≡ Ok (choice 2 448 (9 ∷ 10 ∷ 11 ∷ []) (9 ∷ []) [] (10 ∷ 11 ∷ []))
unfolding number16 number32 number_in follow pointer_by inside follow_at zone_at block_at entry_of entry_at find_entry data_blocks made_above made_indirect all_entries has_name is_overlooked is_promised new_place way_along missing_on_way promised_zone free_inode left_zones name_check file_need choice_with zones_check choose_blocks choose taken_with branch_of
minix_choose_growth_with_an_indirect_zone_in_version_1_with_short_names = refl

-- a second file after that growth in version 1 with short names
pub minix_choose_a_second_file_after_that_growth_in_version_1_with_short_names : choose_on (volume_by (super_with V1Short 16 64 1 1 8) (node 16877 2 7168 (8 ∷ 8 ∷ 8 ∷ 8 ∷ 8 ∷ 8 ∷ 8 ∷ 0 ∷ 0 ∷ 0 ∷ []) ∷ []) (zone_with 8 (replicate 1024 1) ∷ []) (1 ∷ []) (8 ∷ [])) (taken_by (9 ∷ 10 ∷ 11 ∷ []) (2 ∷ []) (promise 1 448 (10 ∷ 11 ∷ []) ∷ []) []) (wish 1 [] 1 (codes "newer")) ≡ Ok (choice 3 449 (12 ∷ []) (12 ∷ []) [] (10 ∷ 11 ∷ []))
unfolding number16 number32 number_in follow pointer_by inside follow_at zone_at block_at entry_of entry_at find_entry data_blocks made_above made_indirect all_entries has_name is_overlooked is_promised new_place way_along missing_on_way promised_zone free_inode left_zones name_check file_need choice_with zones_check choose_blocks choose taken_with branch_of
minix_choose_a_second_file_after_that_growth_in_version_1_with_short_names = refl

-- growth where the indirect zone is there in version 1 with short names
pub minix_choose_growth_where_the_indirect_zone_is_there_in_version_1_with_short_names : choose_on (volume_by (super_with V1Short 16 64 1 1 8) (node 16877 2 7168 (8 ∷ 8 ∷ 8 ∷ 8 ∷ 8 ∷ 8 ∷ 8 ∷ 9 ∷ 0 ∷ 0 ∷ []) ∷ []) (zone_with 8 (replicate 1024 1) ∷ []) (1 ∷ []) (8 ∷ 9 ∷ [])) (taken_by [] [] [] []) (wish 2000 [] 1 (codes "new")) ≡ Ok (choice 2 448 (10 ∷ 11 ∷ 12 ∷ []) (10 ∷ 11 ∷ []) [] (12 ∷ []))
unfolding number16 number32 number_in follow pointer_by inside follow_at zone_at block_at entry_of entry_at find_entry data_blocks made_above made_indirect all_entries has_name is_overlooked is_promised new_place way_along missing_on_way promised_zone free_inode left_zones name_check file_need choice_with zones_check choose_blocks choose taken_with branch_of
minix_choose_growth_where_the_indirect_zone_is_there_in_version_1_with_short_names = refl

-- no zone for growth in version 1 with short names
pub minix_choose_no_zone_for_growth_in_version_1_with_short_names : choose_on (volume_by (super_with V1Short 16 9 1 1 8) (node 16877 2 7168 (8 ∷ 8 ∷ 8 ∷ 8 ∷ 8 ∷ 8 ∷ 8 ∷ 0 ∷ 0 ∷ 0 ∷ []) ∷ []) (zone_with 8 (replicate 1024 1) ∷ []) (1 ∷ []) (8 ∷ [])) (taken_by [] [] [] []) (wish 0 [] 1 (codes "new")) ≡ Err (NoSpace 2 0)
unfolding number16 number32 number_in follow pointer_by inside follow_at zone_at block_at entry_of entry_at find_entry data_blocks made_above made_indirect all_entries has_name is_overlooked is_promised new_place way_along missing_on_way promised_zone free_inode left_zones name_check file_need choice_with zones_check choose_blocks choose taken_with branch_of
minix_choose_no_zone_for_growth_in_version_1_with_short_names = refl

-- growth with an indirect zone in version 1 with long names
pub minix_choose_growth_with_an_indirect_zone_in_version_1_with_long_names : choose_on (volume_by (super_with V1Long 16 64 1 1 8) (node 16877 2 7168 (8 ∷ 8 ∷ 8 ∷ 8 ∷ 8 ∷ 8 ∷ 8 ∷ 0 ∷ 0 ∷ 0 ∷ []) ∷ []) (zone_with 8 (replicate 1024 1) ∷ []) (1 ∷ []) (8 ∷ [])) (taken_by [] [] [] []) (wish 1 [] 1 (codes "new")) ≡ Ok (choice 2 224 (9 ∷ 10 ∷ 11 ∷ []) (9 ∷ []) [] (10 ∷ 11 ∷ []))
unfolding number16 number32 number_in follow pointer_by inside follow_at zone_at block_at entry_of entry_at find_entry data_blocks made_above made_indirect all_entries has_name is_overlooked is_promised new_place way_along missing_on_way promised_zone free_inode left_zones name_check file_need choice_with zones_check choose_blocks choose taken_with branch_of
minix_choose_growth_with_an_indirect_zone_in_version_1_with_long_names = refl

-- a second file after that growth in version 1 with long names
pub minix_choose_a_second_file_after_that_growth_in_version_1_with_long_names : choose_on (volume_by (super_with V1Long 16 64 1 1 8) (node 16877 2 7168 (8 ∷ 8 ∷ 8 ∷ 8 ∷ 8 ∷ 8 ∷ 8 ∷ 0 ∷ 0 ∷ 0 ∷ []) ∷ []) (zone_with 8 (replicate 1024 1) ∷ []) (1 ∷ []) (8 ∷ [])) (taken_by (9 ∷ 10 ∷ 11 ∷ []) (2 ∷ []) (promise 1 224 (10 ∷ 11 ∷ []) ∷ []) []) (wish 1 [] 1 (codes "newer")) ≡ Ok (choice 3 225 (12 ∷ []) (12 ∷ []) [] (10 ∷ 11 ∷ []))
unfolding number16 number32 number_in follow pointer_by inside follow_at zone_at block_at entry_of entry_at find_entry data_blocks made_above made_indirect all_entries has_name is_overlooked is_promised new_place way_along missing_on_way promised_zone free_inode left_zones name_check file_need choice_with zones_check choose_blocks choose taken_with branch_of
minix_choose_a_second_file_after_that_growth_in_version_1_with_long_names = refl

-- growth where the indirect zone is there in version 1 with long names
pub minix_choose_growth_where_the_indirect_zone_is_there_in_version_1_with_long_names : choose_on (volume_by (super_with V1Long 16 64 1 1 8) (node 16877 2 7168 (8 ∷ 8 ∷ 8 ∷ 8 ∷ 8 ∷ 8 ∷ 8 ∷ 9 ∷ 0 ∷ 0 ∷ []) ∷ []) (zone_with 8 (replicate 1024 1) ∷ []) (1 ∷ []) (8 ∷ 9 ∷ [])) (taken_by [] [] [] []) (wish 2000 [] 1 (codes "new")) ≡ Ok (choice 2 224 (10 ∷ 11 ∷ 12 ∷ []) (10 ∷ 11 ∷ []) [] (12 ∷ []))
unfolding number16 number32 number_in follow pointer_by inside follow_at zone_at block_at entry_of entry_at find_entry data_blocks made_above made_indirect all_entries has_name is_overlooked is_promised new_place way_along missing_on_way promised_zone free_inode left_zones name_check file_need choice_with zones_check choose_blocks choose taken_with branch_of
minix_choose_growth_where_the_indirect_zone_is_there_in_version_1_with_long_names = refl

-- no zone for growth in version 1 with long names
pub minix_choose_no_zone_for_growth_in_version_1_with_long_names : choose_on (volume_by (super_with V1Long 16 9 1 1 8) (node 16877 2 7168 (8 ∷ 8 ∷ 8 ∷ 8 ∷ 8 ∷ 8 ∷ 8 ∷ 0 ∷ 0 ∷ 0 ∷ []) ∷ []) (zone_with 8 (replicate 1024 1) ∷ []) (1 ∷ []) (8 ∷ [])) (taken_by [] [] [] []) (wish 0 [] 1 (codes "new")) ≡ Err (NoSpace 2 0)
unfolding number16 number32 number_in follow pointer_by inside follow_at zone_at block_at entry_of entry_at find_entry data_blocks made_above made_indirect all_entries has_name is_overlooked is_promised new_place way_along missing_on_way promised_zone free_inode left_zones name_check file_need choice_with zones_check choose_blocks choose taken_with branch_of
minix_choose_no_zone_for_growth_in_version_1_with_long_names = refl

-- growth with an indirect zone in version 2 with short names
pub minix_choose_growth_with_an_indirect_zone_in_version_2_with_short_names : choose_on (volume_by (super_with V2Short 16 64 1 1 8) (node 16877 2 7168 (8 ∷ 8 ∷ 8 ∷ 8 ∷ 8 ∷ 8 ∷ 8 ∷ 0 ∷ 0 ∷ 0 ∷ []) ∷ []) (zone_with 8 (replicate 1024 1) ∷ []) (1 ∷ []) (8 ∷ [])) (taken_by [] [] [] []) (wish 1 [] 1 (codes "new")) ≡ Ok (choice 2 448 (9 ∷ 10 ∷ 11 ∷ []) (9 ∷ []) [] (10 ∷ 11 ∷ []))
unfolding number16 number32 number_in follow pointer_by inside follow_at zone_at block_at entry_of entry_at find_entry data_blocks made_above made_indirect all_entries has_name is_overlooked is_promised new_place way_along missing_on_way promised_zone free_inode left_zones name_check file_need choice_with zones_check choose_blocks choose taken_with branch_of
minix_choose_growth_with_an_indirect_zone_in_version_2_with_short_names = refl

-- a second file after that growth in version 2 with short names
pub minix_choose_a_second_file_after_that_growth_in_version_2_with_short_names : choose_on (volume_by (super_with V2Short 16 64 1 1 8) (node 16877 2 7168 (8 ∷ 8 ∷ 8 ∷ 8 ∷ 8 ∷ 8 ∷ 8 ∷ 0 ∷ 0 ∷ 0 ∷ []) ∷ []) (zone_with 8 (replicate 1024 1) ∷ []) (1 ∷ []) (8 ∷ [])) (taken_by (9 ∷ 10 ∷ 11 ∷ []) (2 ∷ []) (promise 1 448 (10 ∷ 11 ∷ []) ∷ []) []) (wish 1 [] 1 (codes "newer")) ≡ Ok (choice 3 449 (12 ∷ []) (12 ∷ []) [] (10 ∷ 11 ∷ []))
unfolding number16 number32 number_in follow pointer_by inside follow_at zone_at block_at entry_of entry_at find_entry data_blocks made_above made_indirect all_entries has_name is_overlooked is_promised new_place way_along missing_on_way promised_zone free_inode left_zones name_check file_need choice_with zones_check choose_blocks choose taken_with branch_of
minix_choose_a_second_file_after_that_growth_in_version_2_with_short_names = refl

-- growth where the indirect zone is there in version 2 with short names
pub minix_choose_growth_where_the_indirect_zone_is_there_in_version_2_with_short_names : choose_on (volume_by (super_with V2Short 16 64 1 1 8) (node 16877 2 7168 (8 ∷ 8 ∷ 8 ∷ 8 ∷ 8 ∷ 8 ∷ 8 ∷ 9 ∷ 0 ∷ 0 ∷ []) ∷ []) (zone_with 8 (replicate 1024 1) ∷ []) (1 ∷ []) (8 ∷ 9 ∷ [])) (taken_by [] [] [] []) (wish 2000 [] 1 (codes "new")) ≡ Ok (choice 2 448 (10 ∷ 11 ∷ 12 ∷ []) (10 ∷ 11 ∷ []) [] (12 ∷ []))
unfolding number16 number32 number_in follow pointer_by inside follow_at zone_at block_at entry_of entry_at find_entry data_blocks made_above made_indirect all_entries has_name is_overlooked is_promised new_place way_along missing_on_way promised_zone free_inode left_zones name_check file_need choice_with zones_check choose_blocks choose taken_with branch_of
minix_choose_growth_where_the_indirect_zone_is_there_in_version_2_with_short_names = refl

-- no zone for growth in version 2 with short names
pub minix_choose_no_zone_for_growth_in_version_2_with_short_names : choose_on (volume_by (super_with V2Short 16 9 1 1 8) (node 16877 2 7168 (8 ∷ 8 ∷ 8 ∷ 8 ∷ 8 ∷ 8 ∷ 8 ∷ 0 ∷ 0 ∷ 0 ∷ []) ∷ []) (zone_with 8 (replicate 1024 1) ∷ []) (1 ∷ []) (8 ∷ [])) (taken_by [] [] [] []) (wish 0 [] 1 (codes "new")) ≡ Err (NoSpace 2 0)
unfolding number16 number32 number_in follow pointer_by inside follow_at zone_at block_at entry_of entry_at find_entry data_blocks made_above made_indirect all_entries has_name is_overlooked is_promised new_place way_along missing_on_way promised_zone free_inode left_zones name_check file_need choice_with zones_check choose_blocks choose taken_with branch_of
minix_choose_no_zone_for_growth_in_version_2_with_short_names = refl

-- growth with an indirect zone in version 2 with long names
pub minix_choose_growth_with_an_indirect_zone_in_version_2_with_long_names : choose_on (volume_by (super_with V2Long 16 64 1 1 8) (node 16877 2 7168 (8 ∷ 8 ∷ 8 ∷ 8 ∷ 8 ∷ 8 ∷ 8 ∷ 0 ∷ 0 ∷ 0 ∷ []) ∷ []) (zone_with 8 (replicate 1024 1) ∷ []) (1 ∷ []) (8 ∷ [])) (taken_by [] [] [] []) (wish 1 [] 1 (codes "new")) ≡ Ok (choice 2 224 (9 ∷ 10 ∷ 11 ∷ []) (9 ∷ []) [] (10 ∷ 11 ∷ []))
unfolding number16 number32 number_in follow pointer_by inside follow_at zone_at block_at entry_of entry_at find_entry data_blocks made_above made_indirect all_entries has_name is_overlooked is_promised new_place way_along missing_on_way promised_zone free_inode left_zones name_check file_need choice_with zones_check choose_blocks choose taken_with branch_of
minix_choose_growth_with_an_indirect_zone_in_version_2_with_long_names = refl

-- a second file after that growth in version 2 with long names
pub minix_choose_a_second_file_after_that_growth_in_version_2_with_long_names : choose_on (volume_by (super_with V2Long 16 64 1 1 8) (node 16877 2 7168 (8 ∷ 8 ∷ 8 ∷ 8 ∷ 8 ∷ 8 ∷ 8 ∷ 0 ∷ 0 ∷ 0 ∷ []) ∷ []) (zone_with 8 (replicate 1024 1) ∷ []) (1 ∷ []) (8 ∷ [])) (taken_by (9 ∷ 10 ∷ 11 ∷ []) (2 ∷ []) (promise 1 224 (10 ∷ 11 ∷ []) ∷ []) []) (wish 1 [] 1 (codes "newer")) ≡ Ok (choice 3 225 (12 ∷ []) (12 ∷ []) [] (10 ∷ 11 ∷ []))
unfolding number16 number32 number_in follow pointer_by inside follow_at zone_at block_at entry_of entry_at find_entry data_blocks made_above made_indirect all_entries has_name is_overlooked is_promised new_place way_along missing_on_way promised_zone free_inode left_zones name_check file_need choice_with zones_check choose_blocks choose taken_with branch_of
minix_choose_a_second_file_after_that_growth_in_version_2_with_long_names = refl

-- growth where the indirect zone is there in version 2 with long names
pub minix_choose_growth_where_the_indirect_zone_is_there_in_version_2_with_long_names : choose_on (volume_by (super_with V2Long 16 64 1 1 8) (node 16877 2 7168 (8 ∷ 8 ∷ 8 ∷ 8 ∷ 8 ∷ 8 ∷ 8 ∷ 9 ∷ 0 ∷ 0 ∷ []) ∷ []) (zone_with 8 (replicate 1024 1) ∷ []) (1 ∷ []) (8 ∷ 9 ∷ [])) (taken_by [] [] [] []) (wish 2000 [] 1 (codes "new")) ≡ Ok (choice 2 224 (10 ∷ 11 ∷ 12 ∷ []) (10 ∷ 11 ∷ []) [] (12 ∷ []))
unfolding number16 number32 number_in follow pointer_by inside follow_at zone_at block_at entry_of entry_at find_entry data_blocks made_above made_indirect all_entries has_name is_overlooked is_promised new_place way_along missing_on_way promised_zone free_inode left_zones name_check file_need choice_with zones_check choose_blocks choose taken_with branch_of
minix_choose_growth_where_the_indirect_zone_is_there_in_version_2_with_long_names = refl

-- no zone for growth in version 2 with long names
pub minix_choose_no_zone_for_growth_in_version_2_with_long_names : choose_on (volume_by (super_with V2Long 16 9 1 1 8) (node 16877 2 7168 (8 ∷ 8 ∷ 8 ∷ 8 ∷ 8 ∷ 8 ∷ 8 ∷ 0 ∷ 0 ∷ 0 ∷ []) ∷ []) (zone_with 8 (replicate 1024 1) ∷ []) (1 ∷ []) (8 ∷ [])) (taken_by [] [] [] []) (wish 0 [] 1 (codes "new")) ≡ Err (NoSpace 2 0)
unfolding number16 number32 number_in follow pointer_by inside follow_at zone_at block_at entry_of entry_at find_entry data_blocks made_above made_indirect all_entries has_name is_overlooked is_promised new_place way_along missing_on_way promised_zone free_inode left_zones name_check file_need choice_with zones_check choose_blocks choose taken_with branch_of
minix_choose_no_zone_for_growth_in_version_2_with_long_names = refl
