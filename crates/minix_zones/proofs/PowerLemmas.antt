-- How many blocks a number leads to: powers of 256 or 512.
use Rattle.std.proofs.Common.{◌≤◌, ◌<◌, ◌^◌, ℕ, zero, suc, lit≤, lit<, arith}
use Rattle.lilo_model.specs.MinixLayout.{Kind, V1Short, V1Long, V2Short, V2Long, numbers_in_zone}

pub power_some : (kind : Kind) (level : ℕ) → level ≤ 3 → 0 < numbers_in_zone kind ^ level
power_some V1Short zero low = lit< tt
power_some V1Short (suc zero) low = lit< tt
power_some V1Short (suc (suc zero)) low = lit< tt
power_some V1Short (suc (suc (suc zero))) low = lit< tt
power_some V1Short (suc (suc (suc (suc more)))) low = absurd (omega arith)
power_some V1Long zero low = lit< tt
power_some V1Long (suc zero) low = lit< tt
power_some V1Long (suc (suc zero)) low = lit< tt
power_some V1Long (suc (suc (suc zero))) low = lit< tt
power_some V1Long (suc (suc (suc (suc more)))) low = absurd (omega arith)
power_some V2Short zero low = lit< tt
power_some V2Short (suc zero) low = lit< tt
power_some V2Short (suc (suc zero)) low = lit< tt
power_some V2Short (suc (suc (suc zero))) low = lit< tt
power_some V2Short (suc (suc (suc (suc more)))) low = absurd (omega arith)
power_some V2Long zero low = lit< tt
power_some V2Long (suc zero) low = lit< tt
power_some V2Long (suc (suc zero)) low = lit< tt
power_some V2Long (suc (suc (suc zero))) low = lit< tt
power_some V2Long (suc (suc (suc (suc more)))) low = absurd (omega arith)

pub power_few : (kind : Kind) (level : ℕ) → level ≤ 3 → numbers_in_zone kind ^ level ≤ 134217728
power_few V1Short zero low = lit≤ tt
power_few V1Short (suc zero) low = lit≤ tt
power_few V1Short (suc (suc zero)) low = lit≤ tt
power_few V1Short (suc (suc (suc zero))) low = lit≤ tt
power_few V1Short (suc (suc (suc (suc more)))) low = absurd (omega arith)
power_few V1Long zero low = lit≤ tt
power_few V1Long (suc zero) low = lit≤ tt
power_few V1Long (suc (suc zero)) low = lit≤ tt
power_few V1Long (suc (suc (suc zero))) low = lit≤ tt
power_few V1Long (suc (suc (suc (suc more)))) low = absurd (omega arith)
power_few V2Short zero low = lit≤ tt
power_few V2Short (suc zero) low = lit≤ tt
power_few V2Short (suc (suc zero)) low = lit≤ tt
power_few V2Short (suc (suc (suc zero))) low = lit≤ tt
power_few V2Short (suc (suc (suc (suc more)))) low = absurd (omega arith)
power_few V2Long zero low = lit≤ tt
power_few V2Long (suc zero) low = lit≤ tt
power_few V2Long (suc (suc zero)) low = lit≤ tt
power_few V2Long (suc (suc (suc zero))) low = lit≤ tt
power_few V2Long (suc (suc (suc (suc more)))) low = absurd (omega arith)
