-- A line goes after those before it.
use Rattle.std.proofs.Common.{◌+◌, ◌∷◌, [], ◌++◌, length, ap, ◌∙◌, arith, rules, length-append}
use Rattle.std.specs.List.{flat_map}
use Rattle.std.specs.Slice.Iter.{chunks_rest}
use Rattle.lilo_model.specs.Bytes.{hex_byte}
use Rattle.memory_dump.proofs.DumpLemmas.{length-hex, line_fits, lines_fit, line_joins, all_told}
use Rattle.memory_dump.proofs.dump.lines.Goals as goal

pub push-requires : goal.push-requires
push-requires c =
    let before = c.loop-line.lines.items in
    let line = c.in-Some.line.now in
    let rest = chunks_rest c.next.new.self in
    let (_, (parts, size, some)) = c.in-Some.ensures.steps in
    let long = ap length c.push_hex.ensures ∙ length-append before (flat_map hex_byte line) in
    let digits = length-hex line in
    let fits = line_fits (length before) (length line) (length rest) _ (ap length parts ∙ length-append line rest) (search rules) some c.loop-line.invariant.4 in
    (search rules, omega (arith, long, digits, fits))

pub loop-line-preserved : goal.loop-line-preserved
loop-line-preserved c =
    let before = c.loop-line.lines.items in
    let line = c.in-Some.line.now in
    let rest = chunks_rest c.next.new.self in
    let (same, (parts, size, some)) = c.in-Some.ensures.steps in
    let put = c.push.ensures.items ∙ ap (λ l. l ++ 10 ∷ []) c.push_hex.ensures in
    let long = c.push.ensures.len ∙ ap (λ l. length l + 1) c.push_hex.ensures ∙ ap (λ n. n + 1) (length-append before (flat_map hex_byte line)) in
    let digits = length-hex line in
    let fits = lines_fit (length before) (length line) (length rest) _ (ap length parts ∙ length-append line rest) (search rules) some c.loop-line.invariant.4 in (
      search rules,
      tt,
      same ∙ c.loop-line.invariant.2,
      line_joins before _ _ line rest put parts (search rules) some ∙ c.loop-line.invariant.3,
      omega (arith, long, digits, fits),
    )

pub returns : goal.returns
returns c = all_told _ _ c.in-None.ensures.steps.1.0 ∙ c.loop-line.invariant.3
