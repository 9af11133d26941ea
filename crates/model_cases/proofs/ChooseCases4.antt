-- Cases of what is chosen for a new file of a Minix volume, written by tools/choose_cases.py.
use Rattle.std.proofs.Common.{◌≡◌, [], ◌∷◌, Ok, Err, codes, replicate, ◌++◌, refl}
use Rattle.lilo_model.specs.Bytes.{number16, number32}
use Rattle.lilo_model.specs.MinixEntries.{entry_of, entry_at, find_entry}
use Rattle.lilo_model.specs.MinixFind.{Zone}
use Rattle.lilo_model.specs.MinixLayout.{BadSize, FileSize, V1Short, V1Long, V2Short, V2Long}
use Rattle.lilo_model.specs.MinixParts.{number_in, follow, pointer_by, inside, follow_at, zone_at, block_at, Layout, ZoneOutside}
use Rattle.lilo_model.specs.MinixWalk.{branch_of}
use Rattle.write_model.specs.Choice.{free_inode, left_zones, name_check, file_need, choice_with, zones_check, choose_blocks, choose, taken_with}
use Rattle.write_model.specs.FileZones.{data_blocks, made_above, made_indirect}
use Rattle.write_model.specs.Growth.{way_along, missing_on_way, promised_zone}
use Rattle.write_model.specs.Places.{all_entries, has_name, is_overlooked, is_promised, new_place}
use Rattle.write_model.specs.Wish.{NoSpace, Tree}
use Rattle.model_cases.specs.Sparse.{file, piece, hex}
use Rattle.model_cases.specs.Surveys.{super_with, volume_by, node, zone_with}
use Rattle.model_cases.specs.Choices.{choose_on, blocks_on, zones_on, taken_by, promise, wish, choice, made_at, up_from}

-- 531,456 bytes take 520 zones in version 1
pub minix_choose_531456_bytes_take_520_zones_in_version_1 : choose_on (volume_by (super_with V1Long 16 1200 1 1 8) (node 16877 2 64 (8 ∷ 0 ∷ 0 ∷ 0 ∷ 0 ∷ 0 ∷ 0 ∷ 0 ∷ 0 ∷ 0 ∷ []) ∷ []) (zone_with 8 (file 1024 (piece 0 (hex 3 0x01002e) ∷ piece 32 (hex 4 0x01002e2e) ∷ [])) ∷ []) (1 ∷ []) (8 ∷ [])) (taken_by [] [] [] []) (wish 531456 [] 1 (codes "new")) ≡ Ok (choice 2 2 (up_from 9 520) (up_from 9 519) (528 ∷ []) [])
unfolding number16 number32 number_in follow pointer_by inside follow_at zone_at block_at entry_of entry_at find_entry data_blocks made_above made_indirect all_entries has_name is_overlooked is_promised new_place way_along missing_on_way promised_zone free_inode left_zones name_check file_need choice_with zones_check choose_blocks choose taken_with branch_of
minix_choose_531456_bytes_take_520_zones_in_version_1 = refl

-- 532,480 bytes take 523 zones in version 1
pub minix_choose_532480_bytes_take_523_zones_in_version_1 : choose_on (volume_by (super_with V1Long 16 1200 1 1 8) (node 16877 2 64 (8 ∷ 0 ∷ 0 ∷ 0 ∷ 0 ∷ 0 ∷ 0 ∷ 0 ∷ 0 ∷ 0 ∷ []) ∷ []) (zone_with 8 (file 1024 (piece 0 (hex 3 0x01002e) ∷ piece 32 (hex 4 0x01002e2e) ∷ [])) ∷ []) (1 ∷ []) (8 ∷ [])) (taken_by [] [] [] []) (wish 532480 [] 1 (codes "new")) ≡ Ok (choice 2 2 (up_from 9 523) (up_from 9 520) (529 ∷ 530 ∷ 531 ∷ []) [])
unfolding number16 number32 number_in follow pointer_by inside follow_at zone_at block_at entry_of entry_at find_entry data_blocks made_above made_indirect all_entries has_name is_overlooked is_promised new_place way_along missing_on_way promised_zone free_inode left_zones name_check file_need choice_with zones_check choose_blocks choose taken_with branch_of
minix_choose_532480_bytes_take_523_zones_in_version_1 = refl

-- a file of one level and no more in version 2
pub minix_choose_a_file_of_one_level_and_no_more_in_version_2 : choose_on (volume_by (super_with V2Short 16 1200 1 1 8) (node 16877 2 32 (8 ∷ 0 ∷ 0 ∷ 0 ∷ 0 ∷ 0 ∷ 0 ∷ 0 ∷ 0 ∷ 0 ∷ []) ∷ []) (zone_with 8 (file 1024 (piece 0 (hex 3 0x01002e) ∷ piece 16 (hex 4 0x01002e2e) ∷ [])) ∷ []) (1 ∷ []) (8 ∷ [])) (taken_by [] [] [] []) (wish 269312 [] 1 (codes "new")) ≡ Ok (choice 2 2 (up_from 9 264) (up_from 9 263) (272 ∷ []) [])
unfolding number16 number32 number_in follow pointer_by inside follow_at zone_at block_at entry_of entry_at find_entry data_blocks made_above made_indirect all_entries has_name is_overlooked is_promised new_place way_along missing_on_way promised_zone free_inode left_zones name_check file_need choice_with zones_check choose_blocks choose taken_with branch_of
minix_choose_a_file_of_one_level_and_no_more_in_version_2 = refl

-- a file of two levels in version 2
pub minix_choose_a_file_of_two_levels_in_version_2 : choose_on (volume_by (super_with V2Short 16 1200 1 1 8) (node 16877 2 32 (8 ∷ 0 ∷ 0 ∷ 0 ∷ 0 ∷ 0 ∷ 0 ∷ 0 ∷ 0 ∷ 0 ∷ []) ∷ []) (zone_with 8 (file 1024 (piece 0 (hex 3 0x01002e) ∷ piece 16 (hex 4 0x01002e2e) ∷ [])) ∷ []) (1 ∷ []) (8 ∷ [])) (taken_by [] [] [] []) (wish 271360 [] 1 (codes "new")) ≡ Ok (choice 2 2 (up_from 9 268) (up_from 9 265) (274 ∷ 275 ∷ 276 ∷ []) [])
unfolding number16 number32 number_in follow pointer_by inside follow_at zone_at block_at entry_of entry_at find_entry data_blocks made_above made_indirect all_entries has_name is_overlooked is_promised new_place way_along missing_on_way promised_zone free_inode left_zones name_check file_need choice_with zones_check choose_blocks choose taken_with branch_of
minix_choose_a_file_of_two_levels_in_version_2 = refl

-- a file of two levels of which the first is all holes in version 2
pub minix_choose_a_file_of_two_levels_of_which_the_first_is_all_holes_in_version_2 : choose_on (volume_by (super_with V2Short 16 1200 1 1 8) (node 16877 2 32 (8 ∷ 0 ∷ 0 ∷ 0 ∷ 0 ∷ 0 ∷ 0 ∷ 0 ∷ 0 ∷ 0 ∷ []) ∷ []) (zone_with 8 (file 1024 (piece 0 (hex 3 0x01002e) ∷ piece 16 (hex 4 0x01002e2e) ∷ [])) ∷ []) (1 ∷ []) (8 ∷ [])) (taken_by [] [] [] []) (wish 271360 (up_from 7 256) 1 (codes "new")) ≡ Ok (choice 2 2 (up_from 9 11) (up_from 9 7 ++ (replicate 256 0 ++ ((16 ∷ 17 ∷ [])))) (0 ∷ 18 ∷ 19 ∷ []) [])
unfolding number16 number32 number_in follow pointer_by inside follow_at zone_at block_at entry_of entry_at find_entry data_blocks made_above made_indirect all_entries has_name is_overlooked is_promised new_place way_along missing_on_way promised_zone free_inode left_zones name_check file_need choice_with zones_check choose_blocks choose taken_with branch_of
minix_choose_a_file_of_two_levels_of_which_the_first_is_all_holes_in_version_2 = refl

-- a second indirect zone below that of two levels in version 2
pub minix_choose_a_second_indirect_zone_below_that_of_two_levels_in_version_2 : choose_on (volume_by (super_with V2Short 16 1200 1 1 8) (node 16877 2 32 (8 ∷ 0 ∷ 0 ∷ 0 ∷ 0 ∷ 0 ∷ 0 ∷ 0 ∷ 0 ∷ 0 ∷ []) ∷ []) (zone_with 8 (file 1024 (piece 0 (hex 3 0x01002e) ∷ piece 16 (hex 4 0x01002e2e) ∷ [])) ∷ []) (1 ∷ []) (8 ∷ [])) (taken_by [] [] [] []) (wish 532480 (up_from 8 511) 1 (codes "new")) ≡ Ok (choice 2 2 (up_from 9 12) (up_from 9 8 ++ (replicate 511 0 ++ ((17 ∷ [])))) (18 ∷ 19 ∷ 0 ∷ 20 ∷ []) [])
unfolding number16 number32 number_in follow pointer_by inside follow_at zone_at block_at entry_of entry_at find_entry data_blocks made_above made_indirect all_entries has_name is_overlooked is_promised new_place way_along missing_on_way promised_zone free_inode left_zones name_check file_need choice_with zones_check choose_blocks choose taken_with branch_of
minix_choose_a_second_indirect_zone_below_that_of_two_levels_in_version_2 = refl

-- a block of three levels in version 2
pub minix_choose_a_block_of_three_levels_in_version_2 : blocks_on (volume_by (super_with V2Long 16 64 1 1 8) (node 16877 2 64 (8 ∷ 0 ∷ 0 ∷ 0 ∷ 0 ∷ 0 ∷ 0 ∷ 0 ∷ 0 ∷ 0 ∷ []) ∷ []) (zone_with 8 (file 1024 (piece 0 (hex 3 0x01002e) ∷ piece 32 (hex 4 0x01002e2e) ∷ [])) ∷ []) (1 ∷ []) (8 ∷ [])) (taken_by [] [] [] []) 1 (codes "new") (made_at 65800 (65799 ∷ [])) ≡ Ok (choice 2 2 (9 ∷ 10 ∷ 11 ∷ 12 ∷ []) (replicate 65799 0 ++ ((9 ∷ []))) (replicate 258 0 ++ ((10 ∷ 11 ∷ 12 ∷ []))) [])
unfolding number16 number32 number_in follow pointer_by inside follow_at zone_at block_at entry_of entry_at find_entry data_blocks made_above made_indirect all_entries has_name is_overlooked is_promised new_place way_along missing_on_way promised_zone free_inode left_zones name_check file_need choice_with zones_check choose_blocks choose taken_with branch_of
minix_choose_a_block_of_three_levels_in_version_2 = refl

-- blocks of one, two and three levels in version 2
pub minix_choose_blocks_of_one_two_and_three_levels_in_version_2 : blocks_on (volume_by (super_with V2Short 16 64 1 1 8) (node 16877 2 32 (8 ∷ 0 ∷ 0 ∷ 0 ∷ 0 ∷ 0 ∷ 0 ∷ 0 ∷ 0 ∷ 0 ∷ []) ∷ []) (zone_with 8 (file 1024 (piece 0 (hex 3 0x01002e) ∷ piece 16 (hex 4 0x01002e2e) ∷ [])) ∷ []) (1 ∷ []) (8 ∷ [])) (taken_by [] [] [] []) 1 (codes "new") (made_at 66099 (0 ∷ 8 ∷ 300 ∷ 66098 ∷ [])) ≡ Ok (choice 2 2 (up_from 9 10) ((9 ∷ []) ++ (replicate 7 0 ++ ((10 ∷ []) ++ (replicate 291 0 ++ ((11 ∷ []) ++ (replicate 65797 0 ++ ((12 ∷ [])))))))) ((13 ∷ 14 ∷ 15 ∷ []) ++ (replicate 255 0 ++ ((16 ∷ 17 ∷ 0 ∷ 18 ∷ [])))) [])
unfolding number16 number32 number_in follow pointer_by inside follow_at zone_at block_at entry_of entry_at find_entry data_blocks made_above made_indirect all_entries has_name is_overlooked is_promised new_place way_along missing_on_way promised_zone free_inode left_zones name_check file_need choice_with zones_check choose_blocks choose taken_with branch_of
minix_choose_blocks_of_one_two_and_three_levels_in_version_2 = refl

-- the last block of two levels in version 1
pub minix_choose_the_last_block_of_two_levels_in_version_1 : blocks_on (volume_by (super_with V1Short 16 64 1 1 8) (node 16877 2 32 (8 ∷ 0 ∷ 0 ∷ 0 ∷ 0 ∷ 0 ∷ 0 ∷ 0 ∷ 0 ∷ 0 ∷ []) ∷ []) (zone_with 8 (file 1024 (piece 0 (hex 3 0x01002e) ∷ piece 16 (hex 4 0x01002e2e) ∷ [])) ∷ []) (1 ∷ []) (8 ∷ [])) (taken_by [] [] [] []) 1 (codes "new") (made_at 1543 (1542 ∷ [])) ≡ Ok (choice 2 2 (9 ∷ 10 ∷ 11 ∷ []) (replicate 1542 0 ++ ((9 ∷ []))) (0 ∷ 10 ∷ 0 ∷ 11 ∷ []) [])
unfolding number16 number32 number_in follow pointer_by inside follow_at zone_at block_at entry_of entry_at find_entry data_blocks made_above made_indirect all_entries has_name is_overlooked is_promised new_place way_along missing_on_way promised_zone free_inode left_zones name_check file_need choice_with zones_check choose_blocks choose taken_with branch_of
minix_choose_the_last_block_of_two_levels_in_version_1 = refl

-- growth through two indirect zones that are missing in version 2 with long names
pub minix_choose_growth_through_two_indirect_zones_that_are_missing_in_version_2_with_long_names : zones_on (volume_by (super_with V2Long 16 64 1 1 8) (node 16877 2 64 (8 ∷ 0 ∷ 0 ∷ 0 ∷ 0 ∷ 0 ∷ 0 ∷ 0 ∷ 0 ∷ 0 ∷ []) ∷ []) (zone_with 8 (file 1024 (piece 0 (hex 3 0x01002e) ∷ piece 32 (hex 4 0x01002e2e) ∷ [])) ∷ []) (1 ∷ []) (8 ∷ [])) (taken_by [] [] [] []) 1 1000 9 8416 ≡ Ok (choice 9 8416 (9 ∷ 10 ∷ 11 ∷ 12 ∷ []) (9 ∷ []) [] (10 ∷ 11 ∷ 12 ∷ []))
unfolding number16 number32 number_in follow pointer_by inside follow_at zone_at block_at entry_of entry_at find_entry data_blocks made_above made_indirect all_entries has_name is_overlooked is_promised new_place way_along missing_on_way promised_zone free_inode left_zones name_check file_need choice_with zones_check choose_blocks choose taken_with branch_of
minix_choose_growth_through_two_indirect_zones_that_are_missing_in_version_2_with_long_names = refl

-- growth below the upper of two indirect zones in version 2 with long names
pub minix_choose_growth_below_the_upper_of_two_indirect_zones_in_version_2_with_long_names : zones_on (volume_by (super_with V2Long 16 64 1 1 8) (node 16877 2 64 (8 ∷ 8 ∷ 8 ∷ 8 ∷ 8 ∷ 8 ∷ 8 ∷ 0 ∷ 9 ∷ 0 ∷ []) ∷ []) (zone_with 8 (file 1024 (piece 0 (hex 3 0x01002e) ∷ piece 32 (hex 4 0x01002e2e) ∷ [])) ∷ zone_with 9 (file 1024 []) ∷ []) (1 ∷ []) (8 ∷ 9 ∷ [])) (taken_by [] [] [] []) 1 1000 9 8419 ≡ Ok (choice 9 8419 (10 ∷ 11 ∷ 12 ∷ []) (10 ∷ []) [] (11 ∷ 12 ∷ []))
unfolding number16 number32 number_in follow pointer_by inside follow_at zone_at block_at entry_of entry_at find_entry data_blocks made_above made_indirect all_entries has_name is_overlooked is_promised new_place way_along missing_on_way promised_zone free_inode left_zones name_check file_need choice_with zones_check choose_blocks choose taken_with branch_of
minix_choose_growth_below_the_upper_of_two_indirect_zones_in_version_2_with_long_names = refl

-- growth below both of two indirect zones in version 2 with long names
pub minix_choose_growth_below_both_of_two_indirect_zones_in_version_2_with_long_names : zones_on (volume_by (super_with V2Long 16 64 1 1 8) (node 16877 2 64 (8 ∷ 8 ∷ 8 ∷ 8 ∷ 8 ∷ 8 ∷ 8 ∷ 0 ∷ 9 ∷ 0 ∷ []) ∷ []) (zone_with 8 (file 1024 (piece 0 (hex 3 0x01002e) ∷ piece 32 (hex 4 0x01002e2e) ∷ [])) ∷ zone_with 9 (file 1024 (piece 4 (codes "\n") ∷ [])) ∷ zone_with 10 (file 1024 []) ∷ []) (1 ∷ []) (8 ∷ 9 ∷ 10 ∷ [])) (taken_by [] [] [] []) 1 0 9 16769 ≡ Ok (choice 9 16769 (11 ∷ []) [] [] (11 ∷ []))
unfolding number16 number32 number_in follow pointer_by inside follow_at zone_at block_at entry_of entry_at find_entry data_blocks made_above made_indirect all_entries has_name is_overlooked is_promised new_place way_along missing_on_way promised_zone free_inode left_zones name_check file_need choice_with zones_check choose_blocks choose taken_with branch_of
minix_choose_growth_below_both_of_two_indirect_zones_in_version_2_with_long_names = refl

-- growth by a zone where the block before is in another indirect zone in version 2 with long names
pub minix_choose_growth_by_a_zone_where_the_block_before_is_in_another_indirect_zone_in_version_2_with_long_names : zones_on (volume_by (super_with V2Long 16 64 1 1 8) (node 16877 2 64 (8 ∷ 0 ∷ 0 ∷ 0 ∷ 0 ∷ 0 ∷ 0 ∷ 0 ∷ 0 ∷ 0 ∷ []) ∷ []) (zone_with 8 (file 1024 (piece 0 (hex 3 0x01002e) ∷ piece 32 (hex 4 0x01002e2e) ∷ [])) ∷ []) (1 ∷ []) (8 ∷ [])) (taken_by (20 ∷ 21 ∷ 22 ∷ []) [] (promise 1 16607 (20 ∷ 21 ∷ 22 ∷ []) ∷ []) []) 1 0 9 16608 ≡ Ok (choice 9 16608 (9 ∷ 10 ∷ []) [] [] (9 ∷ 10 ∷ 22 ∷ []))
unfolding number16 number32 number_in follow pointer_by inside follow_at zone_at block_at entry_of entry_at find_entry data_blocks made_above made_indirect all_entries has_name is_overlooked is_promised new_place way_along missing_on_way promised_zone free_inode left_zones name_check file_need choice_with zones_check choose_blocks choose taken_with branch_of
minix_choose_growth_by_a_zone_where_the_block_before_is_in_another_indirect_zone_in_version_2_with_long_names = refl

-- growth by a zone where the indirect zones were promised in version 2 with long names
pub minix_choose_growth_by_a_zone_where_the_indirect_zones_were_promised_in_version_2_with_long_names : zones_on (volume_by (super_with V2Long 16 64 1 1 8) (node 16877 2 64 (8 ∷ 0 ∷ 0 ∷ 0 ∷ 0 ∷ 0 ∷ 0 ∷ 0 ∷ 0 ∷ 0 ∷ []) ∷ []) (zone_with 8 (file 1024 (piece 0 (hex 3 0x01002e) ∷ piece 32 (hex 4 0x01002e2e) ∷ [])) ∷ []) (1 ∷ []) (8 ∷ [])) (taken_by (20 ∷ 21 ∷ 22 ∷ 30 ∷ 31 ∷ 32 ∷ []) [] (promise 1 8416 (20 ∷ 21 ∷ 22 ∷ []) ∷ promise 2 8448 (30 ∷ 31 ∷ 32 ∷ []) ∷ []) []) 1 1000 9 8448 ≡ Ok (choice 9 8448 (9 ∷ 10 ∷ []) (9 ∷ []) [] (10 ∷ 21 ∷ 22 ∷ []))
unfolding number16 number32 number_in follow pointer_by inside follow_at zone_at block_at entry_of entry_at find_entry data_blocks made_above made_indirect all_entries has_name is_overlooked is_promised new_place way_along missing_on_way promised_zone free_inode left_zones name_check file_need choice_with zones_check choose_blocks choose taken_with branch_of
minix_choose_growth_by_a_zone_where_the_indirect_zones_were_promised_in_version_2_with_long_names = refl

-- growth through two indirect zones that are missing in version 2 with short names
pub minix_choose_growth_through_two_indirect_zones_that_are_missing_in_version_2_with_short_names : zones_on (volume_by (super_with V2Short 16 64 1 1 8) (node 16877 2 32 (8 ∷ 0 ∷ 0 ∷ 0 ∷ 0 ∷ 0 ∷ 0 ∷ 0 ∷ 0 ∷ 0 ∷ []) ∷ []) (zone_with 8 (file 1024 (piece 0 (hex 3 0x01002e) ∷ piece 16 (hex 4 0x01002e2e) ∷ [])) ∷ []) (1 ∷ []) (8 ∷ [])) (taken_by [] [] [] []) 1 1000 9 16832 ≡ Ok (choice 9 16832 (9 ∷ 10 ∷ 11 ∷ 12 ∷ []) (9 ∷ []) [] (10 ∷ 11 ∷ 12 ∷ []))
unfolding number16 number32 number_in follow pointer_by inside follow_at zone_at block_at entry_of entry_at find_entry data_blocks made_above made_indirect all_entries has_name is_overlooked is_promised new_place way_along missing_on_way promised_zone free_inode left_zones name_check file_need choice_with zones_check choose_blocks choose taken_with branch_of
minix_choose_growth_through_two_indirect_zones_that_are_missing_in_version_2_with_short_names = refl

-- growth below the upper of two indirect zones in version 2 with short names
pub minix_choose_growth_below_the_upper_of_two_indirect_zones_in_version_2_with_short_names : zones_on (volume_by (super_with V2Short 16 64 1 1 8) (node 16877 2 32 (8 ∷ 8 ∷ 8 ∷ 8 ∷ 8 ∷ 8 ∷ 8 ∷ 0 ∷ 9 ∷ 0 ∷ []) ∷ []) (zone_with 8 (file 1024 (piece 0 (hex 3 0x01002e) ∷ piece 16 (hex 4 0x01002e2e) ∷ [])) ∷ zone_with 9 (file 1024 []) ∷ []) (1 ∷ []) (8 ∷ 9 ∷ [])) (taken_by [] [] [] []) 1 1000 9 16835 ≡ Ok (choice 9 16835 (10 ∷ 11 ∷ 12 ∷ []) (10 ∷ []) [] (11 ∷ 12 ∷ []))
unfolding number16 number32 number_in follow pointer_by inside follow_at zone_at block_at entry_of entry_at find_entry data_blocks made_above made_indirect all_entries has_name is_overlooked is_promised new_place way_along missing_on_way promised_zone free_inode left_zones name_check file_need choice_with zones_check choose_blocks choose taken_with branch_of
minix_choose_growth_below_the_upper_of_two_indirect_zones_in_version_2_with_short_names = refl

-- growth below both of two indirect zones in version 2 with short names
pub minix_choose_growth_below_both_of_two_indirect_zones_in_version_2_with_short_names : zones_on (volume_by (super_with V2Short 16 64 1 1 8) (node 16877 2 32 (8 ∷ 8 ∷ 8 ∷ 8 ∷ 8 ∷ 8 ∷ 8 ∷ 0 ∷ 9 ∷ 0 ∷ []) ∷ []) (zone_with 8 (file 1024 (piece 0 (hex 3 0x01002e) ∷ piece 16 (hex 4 0x01002e2e) ∷ [])) ∷ zone_with 9 (file 1024 (piece 4 (codes "\n") ∷ [])) ∷ zone_with 10 (file 1024 []) ∷ []) (1 ∷ []) (8 ∷ 9 ∷ 10 ∷ [])) (taken_by [] [] [] []) 1 0 9 33537 ≡ Ok (choice 9 33537 (11 ∷ []) [] [] (11 ∷ []))
unfolding number16 number32 number_in follow pointer_by inside follow_at zone_at block_at entry_of entry_at find_entry data_blocks made_above made_indirect all_entries has_name is_overlooked is_promised new_place way_along missing_on_way promised_zone free_inode left_zones name_check file_need choice_with zones_check choose_blocks choose taken_with branch_of
minix_choose_growth_below_both_of_two_indirect_zones_in_version_2_with_short_names = refl

-- growth by a zone where the block before is in another indirect zone in version 2 with short names
pub minix_choose_growth_by_a_zone_where_the_block_before_is_in_another_indirect_zone_in_version_2_with_short_names : zones_on (volume_by (super_with V2Short 16 64 1 1 8) (node 16877 2 32 (8 ∷ 0 ∷ 0 ∷ 0 ∷ 0 ∷ 0 ∷ 0 ∷ 0 ∷ 0 ∷ 0 ∷ []) ∷ []) (zone_with 8 (file 1024 (piece 0 (hex 3 0x01002e) ∷ piece 16 (hex 4 0x01002e2e) ∷ [])) ∷ []) (1 ∷ []) (8 ∷ [])) (taken_by (20 ∷ 21 ∷ 22 ∷ []) [] (promise 1 33215 (20 ∷ 21 ∷ 22 ∷ []) ∷ []) []) 1 0 9 33216 ≡ Ok (choice 9 33216 (9 ∷ 10 ∷ []) [] [] (9 ∷ 10 ∷ 22 ∷ []))
unfolding number16 number32 number_in follow pointer_by inside follow_at zone_at block_at entry_of entry_at find_entry data_blocks made_above made_indirect all_entries has_name is_overlooked is_promised new_place way_along missing_on_way promised_zone free_inode left_zones name_check file_need choice_with zones_check choose_blocks choose taken_with branch_of
minix_choose_growth_by_a_zone_where_the_block_before_is_in_another_indirect_zone_in_version_2_with_short_names = refl

-- growth by a zone where the indirect zones were promised in version 2 with short names
pub minix_choose_growth_by_a_zone_where_the_indirect_zones_were_promised_in_version_2_with_short_names : zones_on (volume_by (super_with V2Short 16 64 1 1 8) (node 16877 2 32 (8 ∷ 0 ∷ 0 ∷ 0 ∷ 0 ∷ 0 ∷ 0 ∷ 0 ∷ 0 ∷ 0 ∷ []) ∷ []) (zone_with 8 (file 1024 (piece 0 (hex 3 0x01002e) ∷ piece 16 (hex 4 0x01002e2e) ∷ [])) ∷ []) (1 ∷ []) (8 ∷ [])) (taken_by (20 ∷ 21 ∷ 22 ∷ 30 ∷ 31 ∷ 32 ∷ []) [] (promise 1 16832 (20 ∷ 21 ∷ 22 ∷ []) ∷ promise 2 16896 (30 ∷ 31 ∷ 32 ∷ []) ∷ []) []) 1 1000 9 16896 ≡ Ok (choice 9 16896 (9 ∷ 10 ∷ []) (9 ∷ []) [] (10 ∷ 21 ∷ 22 ∷ []))
unfolding number16 number32 number_in follow pointer_by inside follow_at zone_at block_at entry_of entry_at find_entry data_blocks made_above made_indirect all_entries has_name is_overlooked is_promised new_place way_along missing_on_way promised_zone free_inode left_zones name_check file_need choice_with zones_check choose_blocks choose taken_with branch_of
minix_choose_growth_by_a_zone_where_the_indirect_zones_were_promised_in_version_2_with_short_names = refl

-- growth through two indirect zones that are missing in version 1 with long names
pub minix_choose_growth_through_two_indirect_zones_that_are_missing_in_version_1_with_long_names : zones_on (volume_by (super_with V1Long 16 64 1 1 8) (node 16877 2 64 (8 ∷ 0 ∷ 0 ∷ 0 ∷ 0 ∷ 0 ∷ 0 ∷ 0 ∷ 0 ∷ 0 ∷ []) ∷ []) (zone_with 8 (file 1024 (piece 0 (hex 3 0x01002e) ∷ piece 32 (hex 4 0x01002e2e) ∷ [])) ∷ []) (1 ∷ []) (8 ∷ [])) (taken_by [] [] [] []) 1 1000 9 16608 ≡ Ok (choice 9 16608 (9 ∷ 10 ∷ 11 ∷ 12 ∷ []) (9 ∷ []) [] (10 ∷ 11 ∷ 12 ∷ []))
unfolding number16 number32 number_in follow pointer_by inside follow_at zone_at block_at entry_of entry_at find_entry data_blocks made_above made_indirect all_entries has_name is_overlooked is_promised new_place way_along missing_on_way promised_zone free_inode left_zones name_check file_need choice_with zones_check choose_blocks choose taken_with branch_of
minix_choose_growth_through_two_indirect_zones_that_are_missing_in_version_1_with_long_names = refl

-- growth below the upper of two indirect zones in version 1 with long names
pub minix_choose_growth_below_the_upper_of_two_indirect_zones_in_version_1_with_long_names : zones_on (volume_by (super_with V1Long 16 64 1 1 8) (node 16877 2 64 (8 ∷ 8 ∷ 8 ∷ 8 ∷ 8 ∷ 8 ∷ 8 ∷ 0 ∷ 9 ∷ 0 ∷ []) ∷ []) (zone_with 8 (file 1024 (piece 0 (hex 3 0x01002e) ∷ piece 32 (hex 4 0x01002e2e) ∷ [])) ∷ zone_with 9 (file 1024 []) ∷ []) (1 ∷ []) (8 ∷ 9 ∷ [])) (taken_by [] [] [] []) 1 1000 9 16611 ≡ Ok (choice 9 16611 (10 ∷ 11 ∷ 12 ∷ []) (10 ∷ []) [] (11 ∷ 12 ∷ []))
unfolding number16 number32 number_in follow pointer_by inside follow_at zone_at block_at entry_of entry_at find_entry data_blocks made_above made_indirect all_entries has_name is_overlooked is_promised new_place way_along missing_on_way promised_zone free_inode left_zones name_check file_need choice_with zones_check choose_blocks choose taken_with branch_of
minix_choose_growth_below_the_upper_of_two_indirect_zones_in_version_1_with_long_names = refl

-- growth below both of two indirect zones in version 1 with long names
pub minix_choose_growth_below_both_of_two_indirect_zones_in_version_1_with_long_names : zones_on (volume_by (super_with V1Long 16 64 1 1 8) (node 16877 2 64 (8 ∷ 8 ∷ 8 ∷ 8 ∷ 8 ∷ 8 ∷ 8 ∷ 0 ∷ 9 ∷ 0 ∷ []) ∷ []) (zone_with 8 (file 1024 (piece 0 (hex 3 0x01002e) ∷ piece 32 (hex 4 0x01002e2e) ∷ [])) ∷ zone_with 9 (file 1024 (piece 2 (codes "\n") ∷ [])) ∷ zone_with 10 (file 1024 []) ∷ []) (1 ∷ []) (8 ∷ 9 ∷ 10 ∷ [])) (taken_by [] [] [] []) 1 0 9 33153 ≡ Ok (choice 9 33153 (11 ∷ []) [] [] (11 ∷ []))
unfolding number16 number32 number_in follow pointer_by inside follow_at zone_at block_at entry_of entry_at find_entry data_blocks made_above made_indirect all_entries has_name is_overlooked is_promised new_place way_along missing_on_way promised_zone free_inode left_zones name_check file_need choice_with zones_check choose_blocks choose taken_with branch_of
minix_choose_growth_below_both_of_two_indirect_zones_in_version_1_with_long_names = refl

-- growth by a zone where the block before is in another indirect zone in version 1 with long names
pub minix_choose_growth_by_a_zone_where_the_block_before_is_in_another_indirect_zone_in_version_1_with_long_names : zones_on (volume_by (super_with V1Long 16 64 1 1 8) (node 16877 2 64 (8 ∷ 0 ∷ 0 ∷ 0 ∷ 0 ∷ 0 ∷ 0 ∷ 0 ∷ 0 ∷ 0 ∷ []) ∷ []) (zone_with 8 (file 1024 (piece 0 (hex 3 0x01002e) ∷ piece 32 (hex 4 0x01002e2e) ∷ [])) ∷ []) (1 ∷ []) (8 ∷ [])) (taken_by (20 ∷ 21 ∷ 22 ∷ []) [] (promise 1 32991 (20 ∷ 21 ∷ 22 ∷ []) ∷ []) []) 1 0 9 32992 ≡ Ok (choice 9 32992 (9 ∷ 10 ∷ []) [] [] (9 ∷ 10 ∷ 22 ∷ []))
unfolding number16 number32 number_in follow pointer_by inside follow_at zone_at block_at entry_of entry_at find_entry data_blocks made_above made_indirect all_entries has_name is_overlooked is_promised new_place way_along missing_on_way promised_zone free_inode left_zones name_check file_need choice_with zones_check choose_blocks choose taken_with branch_of
minix_choose_growth_by_a_zone_where_the_block_before_is_in_another_indirect_zone_in_version_1_with_long_names = refl

-- growth by a zone where the indirect zones were promised in version 1 with long names
pub minix_choose_growth_by_a_zone_where_the_indirect_zones_were_promised_in_version_1_with_long_names : zones_on (volume_by (super_with V1Long 16 64 1 1 8) (node 16877 2 64 (8 ∷ 0 ∷ 0 ∷ 0 ∷ 0 ∷ 0 ∷ 0 ∷ 0 ∷ 0 ∷ 0 ∷ []) ∷ []) (zone_with 8 (file 1024 (piece 0 (hex 3 0x01002e) ∷ piece 32 (hex 4 0x01002e2e) ∷ [])) ∷ []) (1 ∷ []) (8 ∷ [])) (taken_by (20 ∷ 21 ∷ 22 ∷ 30 ∷ 31 ∷ 32 ∷ []) [] (promise 1 16608 (20 ∷ 21 ∷ 22 ∷ []) ∷ promise 2 16640 (30 ∷ 31 ∷ 32 ∷ []) ∷ []) []) 1 1000 9 16640 ≡ Ok (choice 9 16640 (9 ∷ 10 ∷ []) (9 ∷ []) [] (10 ∷ 21 ∷ 22 ∷ []))
unfolding number16 number32 number_in follow pointer_by inside follow_at zone_at block_at entry_of entry_at find_entry data_blocks made_above made_indirect all_entries has_name is_overlooked is_promised new_place way_along missing_on_way promised_zone free_inode left_zones name_check file_need choice_with zones_check choose_blocks choose taken_with branch_of
minix_choose_growth_by_a_zone_where_the_indirect_zones_were_promised_in_version_1_with_long_names = refl

-- growth through two indirect zones that are missing in version 1 with short names
pub minix_choose_growth_through_two_indirect_zones_that_are_missing_in_version_1_with_short_names : zones_on (volume_by (super_with V1Short 16 64 1 1 8) (node 16877 2 32 (8 ∷ 0 ∷ 0 ∷ 0 ∷ 0 ∷ 0 ∷ 0 ∷ 0 ∷ 0 ∷ 0 ∷ []) ∷ []) (zone_with 8 (file 1024 (piece 0 (hex 3 0x01002e) ∷ piece 16 (hex 4 0x01002e2e) ∷ [])) ∷ []) (1 ∷ []) (8 ∷ [])) (taken_by [] [] [] []) 1 1000 9 33216 ≡ Ok (choice 9 33216 (9 ∷ 10 ∷ 11 ∷ 12 ∷ []) (9 ∷ []) [] (10 ∷ 11 ∷ 12 ∷ []))
unfolding number16 number32 number_in follow pointer_by inside follow_at zone_at block_at entry_of entry_at find_entry data_blocks made_above made_indirect all_entries has_name is_overlooked is_promised new_place way_along missing_on_way promised_zone free_inode left_zones name_check file_need choice_with zones_check choose_blocks choose taken_with branch_of
minix_choose_growth_through_two_indirect_zones_that_are_missing_in_version_1_with_short_names = refl

-- growth below the upper of two indirect zones in version 1 with short names
pub minix_choose_growth_below_the_upper_of_two_indirect_zones_in_version_1_with_short_names : zones_on (volume_by (super_with V1Short 16 64 1 1 8) (node 16877 2 32 (8 ∷ 8 ∷ 8 ∷ 8 ∷ 8 ∷ 8 ∷ 8 ∷ 0 ∷ 9 ∷ 0 ∷ []) ∷ []) (zone_with 8 (file 1024 (piece 0 (hex 3 0x01002e) ∷ piece 16 (hex 4 0x01002e2e) ∷ [])) ∷ zone_with 9 (file 1024 []) ∷ []) (1 ∷ []) (8 ∷ 9 ∷ [])) (taken_by [] [] [] []) 1 1000 9 33219 ≡ Ok (choice 9 33219 (10 ∷ 11 ∷ 12 ∷ []) (10 ∷ []) [] (11 ∷ 12 ∷ []))
unfolding number16 number32 number_in follow pointer_by inside follow_at zone_at block_at entry_of entry_at find_entry data_blocks made_above made_indirect all_entries has_name is_overlooked is_promised new_place way_along missing_on_way promised_zone free_inode left_zones name_check file_need choice_with zones_check choose_blocks choose taken_with branch_of
minix_choose_growth_below_the_upper_of_two_indirect_zones_in_version_1_with_short_names = refl

-- growth below both of two indirect zones in version 1 with short names
pub minix_choose_growth_below_both_of_two_indirect_zones_in_version_1_with_short_names : zones_on (volume_by (super_with V1Short 16 64 1 1 8) (node 16877 2 32 (8 ∷ 8 ∷ 8 ∷ 8 ∷ 8 ∷ 8 ∷ 8 ∷ 0 ∷ 9 ∷ 0 ∷ []) ∷ []) (zone_with 8 (file 1024 (piece 0 (hex 3 0x01002e) ∷ piece 16 (hex 4 0x01002e2e) ∷ [])) ∷ zone_with 9 (file 1024 (piece 2 (codes "\n") ∷ [])) ∷ zone_with 10 (file 1024 []) ∷ []) (1 ∷ []) (8 ∷ 9 ∷ 10 ∷ [])) (taken_by [] [] [] []) 1 0 9 66305 ≡ Ok (choice 9 66305 (11 ∷ []) [] [] (11 ∷ []))
unfolding number16 number32 number_in follow pointer_by inside follow_at zone_at block_at entry_of entry_at find_entry data_blocks made_above made_indirect all_entries has_name is_overlooked is_promised new_place way_along missing_on_way promised_zone free_inode left_zones name_check file_need choice_with zones_check choose_blocks choose taken_with branch_of
minix_choose_growth_below_both_of_two_indirect_zones_in_version_1_with_short_names = refl

-- growth by a zone where the block before is in another indirect zone in version 1 with short names
pub minix_choose_growth_by_a_zone_where_the_block_before_is_in_another_indirect_zone_in_version_1_with_short_names : zones_on (volume_by (super_with V1Short 16 64 1 1 8) (node 16877 2 32 (8 ∷ 0 ∷ 0 ∷ 0 ∷ 0 ∷ 0 ∷ 0 ∷ 0 ∷ 0 ∷ 0 ∷ []) ∷ []) (zone_with 8 (file 1024 (piece 0 (hex 3 0x01002e) ∷ piece 16 (hex 4 0x01002e2e) ∷ [])) ∷ []) (1 ∷ []) (8 ∷ [])) (taken_by (20 ∷ 21 ∷ 22 ∷ []) [] (promise 1 65983 (20 ∷ 21 ∷ 22 ∷ []) ∷ []) []) 1 0 9 65984 ≡ Ok (choice 9 65984 (9 ∷ 10 ∷ []) [] [] (9 ∷ 10 ∷ 22 ∷ []))
unfolding number16 number32 number_in follow pointer_by inside follow_at zone_at block_at entry_of entry_at find_entry data_blocks made_above made_indirect all_entries has_name is_overlooked is_promised new_place way_along missing_on_way promised_zone free_inode left_zones name_check file_need choice_with zones_check choose_blocks choose taken_with branch_of
minix_choose_growth_by_a_zone_where_the_block_before_is_in_another_indirect_zone_in_version_1_with_short_names = refl

-- growth by a zone where the indirect zones were promised in version 1 with short names
pub minix_choose_growth_by_a_zone_where_the_indirect_zones_were_promised_in_version_1_with_short_names : zones_on (volume_by (super_with V1Short 16 64 1 1 8) (node 16877 2 32 (8 ∷ 0 ∷ 0 ∷ 0 ∷ 0 ∷ 0 ∷ 0 ∷ 0 ∷ 0 ∷ 0 ∷ []) ∷ []) (zone_with 8 (file 1024 (piece 0 (hex 3 0x01002e) ∷ piece 16 (hex 4 0x01002e2e) ∷ [])) ∷ []) (1 ∷ []) (8 ∷ [])) (taken_by (20 ∷ 21 ∷ 22 ∷ 30 ∷ 31 ∷ 32 ∷ []) [] (promise 1 33216 (20 ∷ 21 ∷ 22 ∷ []) ∷ promise 2 33280 (30 ∷ 31 ∷ 32 ∷ []) ∷ []) []) 1 1000 9 33280 ≡ Ok (choice 9 33280 (9 ∷ 10 ∷ []) (9 ∷ []) [] (10 ∷ 21 ∷ 22 ∷ []))
unfolding number16 number32 number_in follow pointer_by inside follow_at zone_at block_at entry_of entry_at find_entry data_blocks made_above made_indirect all_entries has_name is_overlooked is_promised new_place way_along missing_on_way promised_zone free_inode left_zones name_check file_need choice_with zones_check choose_blocks choose taken_with branch_of
minix_choose_growth_by_a_zone_where_the_indirect_zones_were_promised_in_version_1_with_short_names = refl

-- growth through three indirect zones that are missing in version 2
pub minix_choose_growth_through_three_indirect_zones_that_are_missing_in_version_2 : zones_on (volume_by (super_with V2Long 16 64 1 1 8) (node 16877 2 64 (8 ∷ 0 ∷ 0 ∷ 0 ∷ 0 ∷ 0 ∷ 0 ∷ 0 ∷ 0 ∷ 0 ∷ []) ∷ []) (zone_with 8 (file 1024 (piece 0 (hex 3 0x01002e) ∷ piece 32 (hex 4 0x01002e2e) ∷ [])) ∷ []) (1 ∷ []) (8 ∷ [])) (taken_by [] [] [] []) 1 1000 9 2105568 ≡ Ok (choice 9 2105568 (9 ∷ 10 ∷ 11 ∷ 12 ∷ 13 ∷ []) (9 ∷ []) [] (10 ∷ 11 ∷ 12 ∷ 13 ∷ []))
unfolding number16 number32 number_in follow pointer_by inside follow_at zone_at block_at entry_of entry_at find_entry data_blocks made_above made_indirect all_entries has_name is_overlooked is_promised new_place way_along missing_on_way promised_zone free_inode left_zones name_check file_need choice_with zones_check choose_blocks choose taken_with branch_of
minix_choose_growth_through_three_indirect_zones_that_are_missing_in_version_2 = refl

-- growth through three indirect zones of which two were promised
pub minix_choose_growth_through_three_indirect_zones_of_which_two_were_promised : zones_on (volume_by (super_with V2Long 16 64 1 1 8) (node 16877 2 64 (8 ∷ 0 ∷ 0 ∷ 0 ∷ 0 ∷ 0 ∷ 0 ∷ 0 ∷ 0 ∷ 0 ∷ []) ∷ []) (zone_with 8 (file 1024 (piece 0 (hex 3 0x01002e) ∷ piece 32 (hex 4 0x01002e2e) ∷ [])) ∷ []) (1 ∷ []) (8 ∷ [])) (taken_by (20 ∷ 21 ∷ 22 ∷ 23 ∷ []) [] (promise 1 2105568 (20 ∷ 21 ∷ 22 ∷ 23 ∷ []) ∷ []) []) 1 1000 9 2115168 ≡ Ok (choice 9 2115168 (9 ∷ 10 ∷ 11 ∷ []) (9 ∷ []) [] (10 ∷ 11 ∷ 22 ∷ 23 ∷ []))
unfolding number16 number32 number_in follow pointer_by inside follow_at zone_at block_at entry_of entry_at find_entry data_blocks made_above made_indirect all_entries has_name is_overlooked is_promised new_place way_along missing_on_way promised_zone free_inode left_zones name_check file_need choice_with zones_check choose_blocks choose taken_with branch_of
minix_choose_growth_through_three_indirect_zones_of_which_two_were_promised = refl

-- too few zones for growth through three indirect zones
pub minix_choose_too_few_zones_for_growth_through_three_indirect_zones : zones_on (volume_by (super_with V2Long 16 13 1 1 8) (node 16877 2 64 (8 ∷ 0 ∷ 0 ∷ 0 ∷ 0 ∷ 0 ∷ 0 ∷ 0 ∷ 0 ∷ 0 ∷ []) ∷ []) (zone_with 8 (file 1024 (piece 0 (hex 3 0x01002e) ∷ piece 32 (hex 4 0x01002e2e) ∷ [])) ∷ []) (1 ∷ []) (8 ∷ [])) (taken_by [] [] [] []) 1 1000 9 2105568 ≡ Err (NoSpace 5 4)
unfolding number16 number32 number_in follow pointer_by inside follow_at zone_at block_at entry_of entry_at find_entry data_blocks made_above made_indirect all_entries has_name is_overlooked is_promised new_place way_along missing_on_way promised_zone free_inode left_zones name_check file_need choice_with zones_check choose_blocks choose taken_with branch_of
minix_choose_too_few_zones_for_growth_through_three_indirect_zones = refl

-- a zone outside in the directory
pub minix_choose_a_zone_outside_in_the_directory : choose_on (volume_by (super_with V1Long 16 64 1 1 8) (node 16877 2 2048 (8 ∷ 7 ∷ 0 ∷ 0 ∷ 0 ∷ 0 ∷ 0 ∷ 0 ∷ 0 ∷ 0 ∷ []) ∷ node 33188 1 0 (0 ∷ 0 ∷ 0 ∷ 0 ∷ 0 ∷ 0 ∷ 0 ∷ 0 ∷ 0 ∷ 0 ∷ []) ∷ []) (zone_with 8 (file 1024 (piece 0 (hex 3 0x01002e) ∷ piece 32 (hex 4 0x01002e2e) ∷ piece 64 (hex 3 0x020061) ∷ [])) ∷ []) (1 ∷ 2 ∷ []) (8 ∷ [])) (taken_by [] [] [] []) (wish 1 [] 1 (codes "new")) ≡ Err (Tree (Zone (ZoneOutside 7)))
unfolding number16 number32 number_in follow pointer_by inside follow_at zone_at block_at entry_of entry_at find_entry data_blocks made_above made_indirect all_entries has_name is_overlooked is_promised new_place way_along missing_on_way promised_zone free_inode left_zones name_check file_need choice_with zones_check choose_blocks choose taken_with branch_of
minix_choose_a_zone_outside_in_the_directory = refl

-- a name before a zone outside
pub minix_choose_a_name_before_a_zone_outside : choose_on (volume_by (super_with V1Long 16 64 1 1 8) (node 16877 2 2048 (8 ∷ 7 ∷ 0 ∷ 0 ∷ 0 ∷ 0 ∷ 0 ∷ 0 ∷ 0 ∷ 0 ∷ []) ∷ node 33188 1 0 (0 ∷ 0 ∷ 0 ∷ 0 ∷ 0 ∷ 0 ∷ 0 ∷ 0 ∷ 0 ∷ 0 ∷ []) ∷ []) (zone_with 8 (file 1024 (piece 0 (hex 3 0x01002e) ∷ piece 32 (hex 4 0x01002e2e) ∷ piece 64 (hex 3 0x020061) ∷ [])) ∷ []) (1 ∷ 2 ∷ []) (8 ∷ [])) (taken_by [] [] [] []) (wish 1 [] 1 (codes "a")) ≡ Err (Tree (Zone (ZoneOutside 7)))
unfolding number16 number32 number_in follow pointer_by inside follow_at zone_at block_at entry_of entry_at find_entry data_blocks made_above made_indirect all_entries has_name is_overlooked is_promised new_place way_along missing_on_way promised_zone free_inode left_zones name_check file_need choice_with zones_check choose_blocks choose taken_with branch_of
minix_choose_a_name_before_a_zone_outside = refl

-- a directory of a size that is refused
pub minix_choose_a_directory_of_a_size_that_is_refused : choose_on (volume_by (super_with V1Long 16 64 1 1 8) (node 16877 2 268966913 (8 ∷ 0 ∷ 0 ∷ 0 ∷ 0 ∷ 0 ∷ 0 ∷ 0 ∷ 0 ∷ 0 ∷ []) ∷ []) (zone_with 8 (file 1024 (piece 0 (hex 3 0x01002e) ∷ piece 32 (hex 4 0x01002e2e) ∷ [])) ∷ []) (1 ∷ []) (8 ∷ [])) (taken_by [] [] [] []) (wish 1 [] 1 (codes "new")) ≡ Err (Tree (Zone (Layout (BadSize FileSize))))
unfolding number16 number32 number_in follow pointer_by inside follow_at zone_at block_at entry_of entry_at find_entry data_blocks made_above made_indirect all_entries has_name is_overlooked is_promised new_place way_along missing_on_way promised_zone free_inode left_zones name_check file_need choice_with zones_check choose_blocks choose taken_with branch_of
minix_choose_a_directory_of_a_size_that_is_refused = refl
