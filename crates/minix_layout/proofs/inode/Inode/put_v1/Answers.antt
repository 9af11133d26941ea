use Rattle.std.proofs.Common.{◌≡◌, ◌^◌, ◌<◌, length, take, rules, arith}
use Rattle.std.proofs.lemmas.List.{length-take-le}
use Rattle.std.proofs.lemmas.List.Elements.{All-take}
use Rattle.minix_layout.specs.View.{inode_view}
use Rattle.minix_layout.proofs.Fields.{v1_written, v1_length}
use Rattle.minix_layout.proofs.inode.Inode.put_v1.Goals as goal

pub put_numbers16-requires-clause-inside : goal.put_numbers16-requires-clause-inside
put_numbers16-requires-clause-inside c =
    let long : length c.put_u8-2.new.self.bytes.now ≡ 32 = v1_length c.args.part.now.bytes.now _ _ _ _ _ _ _ _ _ _ _ _ c.requires.length c.put_u16.ensures.bytes c.put_u16-2.ensures.bytes c.put_u32.ensures.bytes c.put_u32-2.ensures.bytes c.put_u8.ensures.bytes c.put_u8-2.ensures.bytes in
    let ten : length c.args.self.now.zones ≡ 10 = search rules in
    let nine : length (take 9 c.args.self.now.zones) ≡ 9 = length-take-le 9 c.args.self.now.zones (omega (arith, ten)) in
    omega (arith, long, nine)

pub put_numbers16-requires-clause-small : goal.put_numbers16-requires-clause-small
put_numbers16-requires-clause-small c = All-take (λ zone. zone < 2 ^ 16) 9 c.args.self.now.zones c.requires.zones

pub returns-clause-bytes : goal.returns-clause-bytes
returns-clause-bytes c =
    let ten : length c.args.self.now.zones ≡ 10 = search rules in
    v1_written (inode_view c.args.self.now) c.args.part.now.bytes.now _ _ _ _ _ _ _ c.requires.length (length-take-le 9 c.args.self.now.zones (omega (arith, ten))) c.put_u16.ensures.bytes c.put_u16-2.ensures.bytes c.put_u32.ensures.bytes c.put_u32-2.ensures.bytes c.put_u8.ensures.bytes c.put_u8-2.ensures.bytes c.put_numbers16.ensures.bytes
