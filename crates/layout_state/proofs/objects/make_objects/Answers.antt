-- One more stripe has its object, and at the end all have.
use Rattle.std.proofs.Common.{◌≡◌, ◌+◌, ◌%◌, ◌<◌, ◌++◌, length, [], ◌∷◌, drop, sym, ◌∙◌, arith}
use Rattle.std.proofs.lemmas.List.{append-nil}
use Rattle.composite_layout.specs.Layouts.{counter_of}
use Rattle.layout_state.specs.Making.{targets_of, next_after, objects_on}
use Rattle.layout_state.proofs.ObjectLaws.{targets_more, length_next, below_next, stripe_made, stripe_past, stripes_end}
use Rattle.layout_state.proofs.objects.make_objects.Goals as goal

pub loop-stripe-preserved : goal.loop-stripe-preserved
loop-stripe-preserved c =
    let nexts = c.loop-stripe.next.items in
    let i = c.loop-stripe.stripe in
    let targets = length c.args.next.now.items in
    let ts = targets_of targets c.args.file c.args.component.now in
    let t = (c.args.file + counter_of c.args.component.now + i) % c.len-targets.result in
    let count : c.len-targets.result ≡ targets = omega arith in
    let within : t < length nexts = omega (arith, c.loop-stripe.invariant.same_length, c.requires.targets.0) in
    let at : drop i ts ≡ t ∷ drop (i + 1) ts = rw count (targets_more targets c.args.file c.args.component.now i (omega arith)) in
    let past : c.next_number-number.new.next.items ≡ next_after nexts t = c.next_number-number.ensures.past in
    let appended : c.push.new.self ≡ c.loop-stripe.objects ++ record { target = t; number = c.next_number-number.result } ∷ [] = c.in_ok-push.ensures.appended in
    record {
      same_length = rw past (length_next nexts t ∙ c.loop-stripe.invariant.same_length);
      room = λ k. rw past (let below = below_next (4294967232 + i) nexts t within c.loop-stripe.invariant.room k in omega (arith, below));
      made = rw (appended, past, c.next_number-number.ensures.same) (stripe_made nexts ts i t c.loop-stripe.objects at ∙ c.loop-stripe.invariant.made);
      past = rw past (stripe_past nexts ts i t at ∙ c.loop-stripe.invariant.past);
    }

pub returns-clause-made : goal.returns-clause-made
returns-clause-made c =
    let end = stripes_end (length c.args.next.now.items) c.args.file c.args.component.now c.loop-stripe.stripe (omega arith) in
    let made : c.loop-stripe.objects ++ [] ≡ objects_on c.args.next.now.items (targets_of (length c.args.next.now.items) c.args.file c.args.component.now) = rw end at c.loop-stripe.invariant.made in
    sym (append-nil c.loop-stripe.objects) ∙ made

pub returns-clause-past : goal.returns-clause-past
returns-clause-past c =
    let end = stripes_end (length c.args.next.now.items) c.args.file c.args.component.now c.loop-stripe.stripe (omega arith) in
    rw end at c.loop-stripe.invariant.past
