use Rattle.safl_aiger.proofs.Common.{Fails, Passes, and_numbers, kinds_from, latch_numbers, length-replicate, output_numbers, own_numbers}
use Rattle.std.proofs.Common.{◌≡◌, ◌+◌, ◌++◌, length, replicate, ◌∙◌, subst, append_assoc, length-append}
use Rattle.safl_aiger.specs.declared.reading.LineKind.TheVariants.{Input, Latch, Output, And}
use Rattle.safl_aiger.proofs.Passing.{passes_on, fails_on, fails_before, kinds_long}
use Rattle.safl_aiger.proofs.sections.read_body.Goals as goal

pub returns-in-Err-read_latches-clause-err : goal.returns-in-Err-read_latches-clause-err
returns-in-Err-read_latches-clause-err c =
    let text = c.args.text.now in
    let h = c.args.h in
    let most = h.inputs + h.latches + h.ands in
    let at = c.args.at in
    let one = kinds_from Input 1 h.inputs in
    let two = kinds_from Latch (1 + h.inputs) h.latches in
    let three = replicate h.outputs Output in
    let four = kinds_from And (1 + h.inputs + h.latches) h.ands in
    let n1 = own_numbers 1 h.inputs in
    let l1 = kinds_long Input 1 h.inputs in
    let m1 = c.in-Ok.next in
    let p1 = c.in-Ok.ensures.ok in
    fails_on text most at m1 one (two ++ (three ++ four)) n1 c.in-Err-read_latches.e c.later.result h.inputs l1 p1
    (fails_before text most m1 two (three ++ four) c.in-Err-read_latches.e c.in-Err-read_latches.ensures.err) c.later.ensures

pub returns-in-Err-read_outputs-clause-err : goal.returns-in-Err-read_outputs-clause-err
returns-in-Err-read_outputs-clause-err c =
    let text = c.args.text.now in
    let h = c.args.h in
    let most = h.inputs + h.latches + h.ands in
    let at = c.args.at in
    let one = kinds_from Input 1 h.inputs in
    let two = kinds_from Latch (1 + h.inputs) h.latches in
    let three = replicate h.outputs Output in
    let four = kinds_from And (1 + h.inputs + h.latches) h.ands in
    let n1 = own_numbers 1 h.inputs in
    let l1 = kinds_long Input 1 h.inputs in
    let m1 = c.in-Ok.next in
    let p1 = c.in-Ok.ensures.ok in
    let n2 = latch_numbers (1 + h.inputs) c.read_latches.new.nexts.items in
    let m2 = c.in-Ok-read_latches.next in
    let l2 : length (one ++ two) ≡ h.inputs + h.latches = length-append one two ∙ (λ i. l1 i + kinds_long Latch (1 + h.inputs) h.latches i) in
    let p2 = passes_on text most at m1 m2 one two n1 n2 p1 c.in-Ok-read_latches.ensures.ok in
    let e = c.in-Err-read_outputs.e in
    let d = c.later-in-Err-read_outputs.result in
    subst (λ ws. Fails text most at ws d) (append_assoc one two (three ++ four))
    (fails_on text most at m2 (one ++ two) (three ++ four) (n1 ++ n2) e d (h.inputs + h.latches) l2 p2
    (fails_before text most m2 three four e c.in-Err-read_outputs.ensures.err) c.later-in-Err-read_outputs.ensures)

pub returns-in-Err-read_ands-clause-err : goal.returns-in-Err-read_ands-clause-err
returns-in-Err-read_ands-clause-err c =
    let text = c.args.text.now in
    let h = c.args.h in
    let most = h.inputs + h.latches + h.ands in
    let at = c.args.at in
    let one = kinds_from Input 1 h.inputs in
    let two = kinds_from Latch (1 + h.inputs) h.latches in
    let three = replicate h.outputs Output in
    let four = kinds_from And (1 + h.inputs + h.latches) h.ands in
    let n1 = own_numbers 1 h.inputs in
    let l1 = kinds_long Input 1 h.inputs in
    let m1 = c.in-Ok.next in
    let p1 = c.in-Ok.ensures.ok in
    let n2 = latch_numbers (1 + h.inputs) c.read_latches.new.nexts.items in
    let m2 = c.in-Ok-read_latches.next in
    let l2 : length (one ++ two) ≡ h.inputs + h.latches = length-append one two ∙ (λ i. l1 i + kinds_long Latch (1 + h.inputs) h.latches i) in
    let p2 = passes_on text most at m1 m2 one two n1 n2 p1 c.in-Ok-read_latches.ensures.ok in
    let n3 = output_numbers c.read_outputs.new.outputs.items in
    let m3 = c.in-Ok-read_outputs.next in
    let l3 : length ((one ++ two) ++ three) ≡ h.inputs + h.latches + h.outputs = length-append (one ++ two) three ∙ (λ i. l2 i + length-replicate h.outputs Output i) in
    let p3 = passes_on text most at m2 m3 (one ++ two) three (n1 ++ n2) n3 p2 c.in-Ok-read_outputs.ensures.ok in
    let w3 : ((one ++ two) ++ three) ++ four ≡ one ++ (two ++ (three ++ four)) = append_assoc (one ++ two) three four ∙ append_assoc one two (three ++ four) in
    let e = c.in-Err-read_ands.e in
    let d = c.later-in-Err-read_ands.result in
    subst (λ ws. Fails text most at ws d) w3 (fails_on text most at m3 ((one ++ two) ++ three) four ((n1 ++ n2) ++ n3) e d
    (h.inputs + h.latches + h.outputs) l3 p3 c.in-Err-read_ands.ensures.err c.later-in-Err-read_ands.ensures)

pub returns-clause-ok : goal.returns-clause-ok
returns-clause-ok c =
    let text = c.args.text.now in
    let h = c.args.h in
    let most = h.inputs + h.latches + h.ands in
    let at = c.args.at in
    let one = kinds_from Input 1 h.inputs in
    let two = kinds_from Latch (1 + h.inputs) h.latches in
    let three = replicate h.outputs Output in
    let four = kinds_from And (1 + h.inputs + h.latches) h.ands in
    let n1 = own_numbers 1 h.inputs in
    let l1 = kinds_long Input 1 h.inputs in
    let m1 = c.in-Ok.next in
    let p1 = c.in-Ok.ensures.ok in
    let n2 = latch_numbers (1 + h.inputs) c.read_latches.new.nexts.items in
    let m2 = c.in-Ok-read_latches.next in
    let l2 : length (one ++ two) ≡ h.inputs + h.latches = length-append one two ∙ (λ i. l1 i + kinds_long Latch (1 + h.inputs) h.latches i) in
    let p2 = passes_on text most at m1 m2 one two n1 n2 p1 c.in-Ok-read_latches.ensures.ok in
    let n3 = output_numbers c.read_outputs.new.outputs.items in
    let m3 = c.in-Ok-read_outputs.next in
    let l3 : length ((one ++ two) ++ three) ≡ h.inputs + h.latches + h.outputs = length-append (one ++ two) three ∙ (λ i. l2 i + length-replicate h.outputs Output i) in
    let p3 = passes_on text most at m2 m3 (one ++ two) three (n1 ++ n2) n3 p2 c.in-Ok-read_outputs.ensures.ok in
    let w3 : ((one ++ two) ++ three) ++ four ≡ one ++ (two ++ (three ++ four)) = append_assoc (one ++ two) three four ∙ append_assoc one two (three ++ four) in
    let n4 = and_numbers (1 + h.inputs + h.latches) c.read_ands.new.ands.items in
    let m4 = c.in-Ok-read_ands.next in
    let p4 = passes_on text most at m3 m4 ((one ++ two) ++ three) four ((n1 ++ n2) ++ n3) n4 p3 c.in-Ok-read_ands.ensures.ok in
    let v : ((n1 ++ n2) ++ n3) ++ n4 ≡ n1 ++ (n2 ++ (n3 ++ n4)) = append_assoc (n1 ++ n2) n3 n4 ∙ append_assoc n1 n2 (n3 ++ n4) in
    record {
      latches = c.in-Ok-read_latches.ensures.count;
      outputs = c.in-Ok-read_outputs.ensures.count;
      ands = c.in-Ok-read_ands.ensures.count;
      passes = subst (λ ws. Passes text most at ws (n1 ++ (n2 ++ (n3 ++ n4))) m4) w3 (subst (λ nss. Passes text most at (((one ++ two) ++ three) ++ four) nss m4) v p4);
    }
