-- Each command by itself.
use Rattle.std.proofs.Common.{◌≡◌, ◌↔◌, map, true, false, refl, subst, rules}
use Rattle.disk_trait.proofs.ToldLemmas.{told_all, told_map}
use Rattle.sector_address.specs.Machine.{OnDisks, machine_of}
use Rattle.ldisk_model.specs.Arguments as model
use Rattle.ldisk_model.specs.DiskTable.{are_placed}
use Rattle.ldisk_model.specs.Verdict.{command_verdict, is_carried_out, only_reads}
use Rattle.ldisk_words.specs.View.{part_view}
use Rattle.mbr_table.specs.View.{device_view}
use Rattle.minix_layout.specs.View.{kind_view}
use Rattle.ldisk_files.proofs.StoredLemmas.{given-all, given-map}
use Rattle.ldisk_run.specs.Left.{AnswersAs, LeavesBy}
use Rattle.ldisk_run.specs.Run.{DoesAs}
use Rattle.ldisk_run.specs.Pieces.{held_by}
use Rattle.ldisk_run.proofs.MadeLemmas.{silent_does, told_silent, reading_leaves, known_any, not_source}
use Rattle.ldisk_run.proofs.PutLemmas.{told_every}
use Rattle.ldisk_run.proofs.run.run_command.Goals as goal

-- ---- make

pub returns-in-Make-clause-does : goal.returns-in-Make-clause-does
unfolding command_verdict
returns-in-Make-clause-does g c =
    let machine = machine_of g.D.Disks c.args.disks.now in
    let same : c.as_slice.result.now ≡ c.in-Make.parts.items = search rules in
    rw c.in-Make.is
    (told_every (g.D.Disks.past c.args.disks.now) (g.I.Source.left c.args.source.now) _ (λ given.
    told_silent (g.D.Disks.past c.args.disks.now) (λ now. command_verdict now machine given c.args.sectors (model.Make (map part_view c.in-Make.parts.items)))
    c.make.result (held_by g.O.Sink c.args.out.now) (λ now. refl)
    (subst (λ parts. OnDisks g.D.Disks c.args.disks.now (λ now machine. AnswersAs (command_verdict now machine given c.args.sectors (model.Make (map part_view parts))) c.make.result))
    same (c.make.ensures.answers given))))

pub returns-in-Make-clause-usage : goal.returns-in-Make-clause-usage
unfolding is_carried_out
returns-in-Make-clause-usage g c =
    let same : c.as_slice.result.now ≡ c.in-Make.parts.items = search rules in
    rw c.in-Make.is
    (subst (λ parts. (c.make.result ≡ 1) ↔ (are_placed c.args.sectors (map part_view parts) ≡ false)) same c.make.ensures.usage)

pub returns-in-Make-clause-no_disk : goal.returns-in-Make-clause-no_disk
unfolding is_carried_out
returns-in-Make-clause-no_disk g c =
    let same : c.as_slice.result.now ≡ c.in-Make.parts.items = search rules in
    rw c.in-Make.is
    (subst (λ parts. g.D.Disks.size_of c.args.disks.now 0 ≡ 0 → are_placed c.args.sectors (map part_view parts) ≡ true → c.make.result ≡ 3)
    same c.make.ensures.no_disk)

pub returns-in-Make-clause-leaves : goal.returns-in-Make-clause-leaves
returns-in-Make-clause-leaves g c =
    let same : c.as_slice.result.now ≡ c.in-Make.parts.items = search rules in
    rw c.in-Make.is
    (given-all (λ given. LeavesBy g.D.Disks c.args.disks.now c.make.new.disks c.args.time given c.args.sectors (model.Make (map part_view c.in-Make.parts.items)) c.make.result) (g.I.Source.left c.args.source.now) (λ given.
    subst (λ parts. LeavesBy g.D.Disks c.args.disks.now c.make.new.disks c.args.time given c.args.sectors (model.Make (map part_view parts)) c.make.result)
    same (c.make.ensures.leaves c.args.time given)))

-- ---- mkfs

pub returns-in-Mkfs-clause-does : goal.returns-in-Mkfs-clause-does
unfolding command_verdict
returns-in-Mkfs-clause-does g c =
    let machine = machine_of g.D.Disks c.args.disks.now in
    rw c.in-Mkfs.is
    (told_every (g.D.Disks.past c.args.disks.now) (g.I.Source.left c.args.source.now) _ (λ given.
    told_silent (g.D.Disks.past c.args.disks.now)
    (λ now. command_verdict now machine given c.args.sectors (model.Mkfs (device_view c.in-Mkfs.device) (kind_view c.in-Mkfs.kind) c.in-Mkfs.inodes))
    c.mkfs.result (held_by g.O.Sink c.args.out.now) (λ now. refl) (c.mkfs.ensures.answers given c.args.sectors)))

pub returns-in-Mkfs-clause-leaves : goal.returns-in-Mkfs-clause-leaves
returns-in-Mkfs-clause-leaves g c =
    rw c.in-Mkfs.is
    (given-all (λ given. LeavesBy g.D.Disks c.args.disks.now c.mkfs.new.disks c.args.time given c.args.sectors (model.Mkfs (device_view c.in-Mkfs.device) (kind_view c.in-Mkfs.kind) c.in-Mkfs.inodes) c.mkfs.result)
    (g.I.Source.left c.args.source.now) (λ given. c.mkfs.ensures.leaves given c.args.sectors))

pub returns-in-Mkfs-clause-usage : goal.returns-in-Mkfs-clause-usage
unfolding is_carried_out
returns-in-Mkfs-clause-usage g c = rw c.in-Mkfs.is (λ one. absurd (c.mkfs.ensures.usage one), λ no. absurd cc)

-- ---- get and ls

pub returns-in-Get-clause-does : goal.returns-in-Get-clause-does
unfolding command_verdict
returns-in-Get-clause-does g c =
    rw c.in-Get.is (told_every (g.D.Disks.past c.args.disks.now) (g.I.Source.left c.args.source.now) _ (λ given. c.read.ensures.does))

pub returns-in-Get-clause-usage : goal.returns-in-Get-clause-usage
unfolding is_carried_out
returns-in-Get-clause-usage g c = rw c.in-Get.is (λ one. absurd (c.read.ensures.usage one), λ no. absurd cc)

pub returns-in-Get-clause-leaves : goal.returns-in-Get-clause-leaves
unfolding only_reads
returns-in-Get-clause-leaves g c =
    rw c.in-Get.is
    (given-all (λ given. LeavesBy g.D.Disks c.args.disks.now c.read.new.disks c.args.time given c.args.sectors (model.Get (device_view c.in-Get.device) c.in-Get.path.now) c.read.result) (g.I.Source.left c.args.source.now) (λ given.
    reading_leaves g.D.Disks c.args.disks.now c.read.new.disks c.read.ensures.same c.read.ensures.later c.args.time given c.args.sectors
    (model.Get (device_view c.in-Get.device) c.in-Get.path.now) c.read.result refl c.read.ensures.device))

pub returns-in-Ls-clause-does : goal.returns-in-Ls-clause-does
unfolding command_verdict
returns-in-Ls-clause-does g c =
    rw c.in-Ls.is (told_every (g.D.Disks.past c.args.disks.now) (g.I.Source.left c.args.source.now) _ (λ given. c.read-in-Ls.ensures.does))

pub returns-in-Ls-clause-usage : goal.returns-in-Ls-clause-usage
unfolding is_carried_out
returns-in-Ls-clause-usage g c = rw c.in-Ls.is (λ one. absurd (c.read-in-Ls.ensures.usage one), λ no. absurd cc)

pub returns-in-Ls-clause-leaves : goal.returns-in-Ls-clause-leaves
unfolding only_reads
returns-in-Ls-clause-leaves g c =
    rw c.in-Ls.is
    (given-all (λ given. LeavesBy g.D.Disks c.args.disks.now c.read-in-Ls.new.disks c.args.time given c.args.sectors (model.Ls (device_view c.in-Ls.device) c.in-Ls.path.now) c.read-in-Ls.result) (g.I.Source.left c.args.source.now) (λ given.
    reading_leaves g.D.Disks c.args.disks.now c.read-in-Ls.new.disks c.read-in-Ls.ensures.same c.read-in-Ls.ensures.later c.args.time given c.args.sectors
    (model.Ls (device_view c.in-Ls.device) c.in-Ls.path.now) c.read-in-Ls.result refl c.read-in-Ls.ensures.device))

-- ---- rm

pub returns-in-Rm-clause-does : goal.returns-in-Rm-clause-does
unfolding command_verdict
returns-in-Rm-clause-does g c =
    let machine = machine_of g.D.Disks c.args.disks.now in
    rw c.in-Rm.is
    (told_every (g.D.Disks.past c.args.disks.now) (g.I.Source.left c.args.source.now) _ (λ given.
    told_silent (g.D.Disks.past c.args.disks.now)
    (λ now. command_verdict now machine given c.args.sectors (model.Rm (device_view c.in-Rm.device) c.in-Rm.path.now))
    c.rm.result (held_by g.O.Sink c.args.out.now) (λ now. refl) (c.rm.ensures.answers given c.args.sectors)))

pub returns-in-Rm-clause-usage : goal.returns-in-Rm-clause-usage
unfolding is_carried_out
returns-in-Rm-clause-usage g c = rw c.in-Rm.is (λ one. absurd (c.rm.ensures.usage one), λ no. absurd cc)

pub returns-in-Rm-clause-leaves : goal.returns-in-Rm-clause-leaves
returns-in-Rm-clause-leaves g c =
    rw c.in-Rm.is
    (given-all (λ given. LeavesBy g.D.Disks c.args.disks.now c.rm.new.disks c.args.time given c.args.sectors (model.Rm (device_view c.in-Rm.device) c.in-Rm.path.now) c.rm.result)
    (g.I.Source.left c.args.source.now) (λ given. c.rm.ensures.leaves given c.args.time c.args.sectors))

-- ---- mkdir

pub mkdir-requires-clause-path : goal.mkdir-requires-clause-path
mkdir-requires-clause-path g c = rw c.in-Mkdir.is at c.requires.path

pub returns-in-Mkdir-clause-does : goal.returns-in-Mkdir-clause-does
unfolding command_verdict
returns-in-Mkdir-clause-does g c =
    let machine = machine_of g.D.Disks c.args.disks.now in
    rw c.in-Mkdir.is
    (told_every (g.D.Disks.past c.args.disks.now) (g.I.Source.left c.args.source.now) _ (λ given.
    told_silent (g.D.Disks.past c.args.disks.now)
    (λ now. command_verdict now machine given c.args.sectors (model.Mkdir (device_view c.in-Mkdir.device) c.in-Mkdir.path.now))
    c.mkdir.result (held_by g.O.Sink c.args.out.now) (λ now. refl) (c.mkdir.ensures.answers given c.args.sectors)))

pub returns-in-Mkdir-clause-usage : goal.returns-in-Mkdir-clause-usage
unfolding is_carried_out
returns-in-Mkdir-clause-usage g c = rw c.in-Mkdir.is (λ one. absurd (c.mkdir.ensures.usage one), λ no. absurd cc)

pub returns-in-Mkdir-clause-leaves : goal.returns-in-Mkdir-clause-leaves
returns-in-Mkdir-clause-leaves g c =
    rw c.in-Mkdir.is
    (given-all (λ given. LeavesBy g.D.Disks c.args.disks.now c.mkdir.new.disks c.args.time given c.args.sectors (model.Mkdir (device_view c.in-Mkdir.device) c.in-Mkdir.path.now) c.mkdir.result)
    (g.I.Source.left c.args.source.now) (λ given. c.mkdir.ensures.leaves given c.args.sectors))

-- ---- ln

pub ln-requires-clause-path : goal.ln-requires-clause-path
ln-requires-clause-path g c = rw c.in-Ln.is at c.requires.path

pub returns-in-Ln-clause-does : goal.returns-in-Ln-clause-does
unfolding command_verdict
returns-in-Ln-clause-does g c =
    let machine = machine_of g.D.Disks c.args.disks.now in
    rw c.in-Ln.is
    (told_every (g.D.Disks.past c.args.disks.now) (g.I.Source.left c.args.source.now) _ (λ given.
    told_silent (g.D.Disks.past c.args.disks.now)
    (λ now. command_verdict now machine given c.args.sectors (model.Ln (device_view c.in-Ln.device) c.in-Ln.path.now c.in-Ln.target.now))
    c.ln.result (held_by g.O.Sink c.args.out.now) (λ now. refl) (c.ln.ensures.answers given c.args.sectors)))

pub returns-in-Ln-clause-usage : goal.returns-in-Ln-clause-usage
unfolding is_carried_out
returns-in-Ln-clause-usage g c = rw c.in-Ln.is (λ one. absurd (c.ln.ensures.usage one), λ no. absurd cc)

pub returns-in-Ln-clause-leaves : goal.returns-in-Ln-clause-leaves
returns-in-Ln-clause-leaves g c =
    rw c.in-Ln.is
    (given-all (λ given. LeavesBy g.D.Disks c.args.disks.now c.ln.new.disks c.args.time given c.args.sectors (model.Ln (device_view c.in-Ln.device) c.in-Ln.path.now c.in-Ln.target.now) c.ln.result)
    (g.I.Source.left c.args.source.now) (λ given. c.ln.ensures.leaves given c.args.sectors))

-- ---- reclaim

pub returns-in-Reclaim-clause-does : goal.returns-in-Reclaim-clause-does
returns-in-Reclaim-clause-does g c =
    rw c.in-Reclaim.is
    (told_every (g.D.Disks.past c.args.disks.now) (g.I.Source.left c.args.source.now) _ (λ given. c.reclaim.ensures.does given c.args.sectors))

pub returns-in-Reclaim-clause-usage : goal.returns-in-Reclaim-clause-usage
unfolding is_carried_out
returns-in-Reclaim-clause-usage g c = rw c.in-Reclaim.is (λ one. absurd (c.reclaim.ensures.usage one), λ no. absurd cc)

pub returns-in-Reclaim-clause-leaves : goal.returns-in-Reclaim-clause-leaves
returns-in-Reclaim-clause-leaves g c =
    rw c.in-Reclaim.is
    (given-all (λ given. LeavesBy g.D.Disks c.args.disks.now c.reclaim.new.disks c.args.time given c.args.sectors (model.Reclaim (device_view c.in-Reclaim.device)) c.reclaim.result)
    (g.I.Source.left c.args.source.now) (λ given. c.reclaim.ensures.leaves given c.args.time c.args.sectors))

-- ---- put

pub put-requires-clause-path : goal.put-requires-clause-path
put-requires-clause-path g c = rw c.in-Put.is at c.requires.path

pub returns-in-Put-clause-does : goal.returns-in-Put-clause-does
unfolding command_verdict
returns-in-Put-clause-does g c =
    let machine = machine_of g.D.Disks c.args.disks.now in
    let left = g.I.Source.left c.args.source.now in
    let held = held_by g.O.Sink c.args.out.now in
    rw c.in-Put.is
    (told_map (g.D.Disks.past c.args.disks.now) _ _
    (λ now is. given-map
    (λ given. AnswersAs (command_verdict now machine given c.args.sectors (model.Put (device_view c.in-Put.device) c.in-Put.path.now)) c.put.result)
    (λ given. DoesAs (command_verdict now machine given c.args.sectors (model.Put (device_view c.in-Put.device) c.in-Put.path.now)) c.put.result held held) left
    (λ given answers. silent_does (command_verdict now machine given c.args.sectors (model.Put (device_view c.in-Put.device) c.in-Put.path.now)) c.put.result held refl answers) is)
    (c.put.ensures.answers c.args.sectors))

pub returns-in-Put-clause-usage : goal.returns-in-Put-clause-usage
unfolding is_carried_out
returns-in-Put-clause-usage g c = rw c.in-Put.is (λ one. absurd (c.put.ensures.usage one), λ no. absurd cc)

pub returns-in-Put-clause-leaves : goal.returns-in-Put-clause-leaves
returns-in-Put-clause-leaves g c = rw c.in-Put.is (c.put.ensures.leaves c.args.sectors)

pub returns-in-Put-clause-left_alone : goal.returns-in-Put-clause-left_alone
returns-in-Put-clause-left_alone g c = rw c.in-Put.is (λ no. absurd cc)

pub returns-in-Put-clause-unread : goal.returns-in-Put-clause-unread
returns-in-Put-clause-unread g c = rw c.in-Put.is c.put.ensures.unread

-- ---- the source in the others

pub returns-in-Make-clause-known : goal.returns-in-Make-clause-known
returns-in-Make-clause-known g c = known_any c.make.result c.make.ensures.known

pub returns-in-Make-clause-source : goal.returns-in-Make-clause-source
returns-in-Make-clause-source g c = λ is. absurd (not_source c.make.result c.make.ensures.known is)

pub returns-in-Make-clause-unread : goal.returns-in-Make-clause-unread
returns-in-Make-clause-unread g c = told_all (g.D.Disks.past c.args.disks.now) _ (λ now none. refl)

pub returns-in-Mkfs-clause-known : goal.returns-in-Mkfs-clause-known
returns-in-Mkfs-clause-known g c = known_any c.mkfs.result c.mkfs.ensures.known

pub returns-in-Mkfs-clause-source : goal.returns-in-Mkfs-clause-source
returns-in-Mkfs-clause-source g c = λ is. absurd (not_source c.mkfs.result c.mkfs.ensures.known is)

pub returns-in-Mkfs-clause-unread : goal.returns-in-Mkfs-clause-unread
returns-in-Mkfs-clause-unread g c = told_all (g.D.Disks.past c.args.disks.now) _ (λ now none. refl)

pub returns-in-Get-clause-known : goal.returns-in-Get-clause-known
returns-in-Get-clause-known g c = known_any c.read.result c.read.ensures.known

pub returns-in-Get-clause-source : goal.returns-in-Get-clause-source
returns-in-Get-clause-source g c = λ is. absurd (not_source c.read.result c.read.ensures.known is)

pub returns-in-Get-clause-unread : goal.returns-in-Get-clause-unread
returns-in-Get-clause-unread g c = told_all (g.D.Disks.past c.args.disks.now) _ (λ now none. refl)

pub returns-in-Ls-clause-known : goal.returns-in-Ls-clause-known
returns-in-Ls-clause-known g c = known_any c.read-in-Ls.result c.read-in-Ls.ensures.known

pub returns-in-Ls-clause-source : goal.returns-in-Ls-clause-source
returns-in-Ls-clause-source g c = λ is. absurd (not_source c.read-in-Ls.result c.read-in-Ls.ensures.known is)

pub returns-in-Ls-clause-unread : goal.returns-in-Ls-clause-unread
returns-in-Ls-clause-unread g c = told_all (g.D.Disks.past c.args.disks.now) _ (λ now none. refl)

pub returns-in-Rm-clause-known : goal.returns-in-Rm-clause-known
returns-in-Rm-clause-known g c = known_any c.rm.result c.rm.ensures.known

pub returns-in-Rm-clause-source : goal.returns-in-Rm-clause-source
returns-in-Rm-clause-source g c = λ is. absurd (not_source c.rm.result c.rm.ensures.known is)

pub returns-in-Rm-clause-unread : goal.returns-in-Rm-clause-unread
returns-in-Rm-clause-unread g c = told_all (g.D.Disks.past c.args.disks.now) _ (λ now none. refl)

pub returns-in-Mkdir-clause-known : goal.returns-in-Mkdir-clause-known
returns-in-Mkdir-clause-known g c = known_any c.mkdir.result c.mkdir.ensures.known

pub returns-in-Mkdir-clause-source : goal.returns-in-Mkdir-clause-source
returns-in-Mkdir-clause-source g c = λ is. absurd (not_source c.mkdir.result c.mkdir.ensures.known is)

pub returns-in-Mkdir-clause-unread : goal.returns-in-Mkdir-clause-unread
returns-in-Mkdir-clause-unread g c = told_all (g.D.Disks.past c.args.disks.now) _ (λ now none. refl)

pub returns-in-Ln-clause-known : goal.returns-in-Ln-clause-known
returns-in-Ln-clause-known g c = known_any c.ln.result c.ln.ensures.known

pub returns-in-Ln-clause-source : goal.returns-in-Ln-clause-source
returns-in-Ln-clause-source g c = λ is. absurd (not_source c.ln.result c.ln.ensures.known is)

pub returns-in-Ln-clause-unread : goal.returns-in-Ln-clause-unread
returns-in-Ln-clause-unread g c = told_all (g.D.Disks.past c.args.disks.now) _ (λ now none. refl)

pub returns-in-Reclaim-clause-known : goal.returns-in-Reclaim-clause-known
returns-in-Reclaim-clause-known g c = known_any c.reclaim.result c.reclaim.ensures.known

pub returns-in-Reclaim-clause-source : goal.returns-in-Reclaim-clause-source
returns-in-Reclaim-clause-source g c = λ is. absurd (not_source c.reclaim.result c.reclaim.ensures.known is)

pub returns-in-Reclaim-clause-unread : goal.returns-in-Reclaim-clause-unread
returns-in-Reclaim-clause-unread g c = told_all (g.D.Disks.past c.args.disks.now) _ (λ now none. refl)
