-- Frames that are written one behind the other. Assumes nothing.
use Rattle.std.proofs.Common.{◌≡◌, ℕ, ◌+◌, ◌-◌, ◌≤◌, Bool, true, false, cond, List, [], ◌∷◌, ◌++◌, length, take, drop, Ok, Err, sym, ap, ◌∙◌, subst, ap₂, append-nil, append_assoc, length-append, length-drop, nat_le, nat_lt, ◌&&◌, arith, Result}
use Rattle.std.specs.List.{flat_map}
use Rattle.std.proofs.lemmas.Grind.{flat_map-append}
use Rattle.std.specs.Int.{is_in_range}
use Rattle.std.proofs.Math.Seq.{take-append-add, drop-append-add}
use Rattle.std.proofs.lemmas.List.{take-append-le, drop-append-le, take_all, drop_all, length-take-le, length-replicate, drop-drop, take_at, drop_at, take-append-drop}
use borrow.Rule.Slice.PartMut.{post_of}
use Rattle.refusals.specs.declared.Refusal.{Refusal}
use Rattle.refusals.specs.declared.Refusal.TheVariants.{MemoryTooShort, IdleLength, CodeblockLimit}
use Rattle.procedures.specs.declared.Plop.TheVariants.{Two}
use Rattle.procedures.specs.Stretch.{Parameters, idle_octet, repeated, Writing, sends, idles, octets_in, stretch_octets}
use Rattle.procedures.specs.Reception.{FramesWithin}
use Rattle.session.specs.declared.Locked.{Locked}
use Rattle.session.specs.declared.Carrier.{Carrier}
use Rattle.session.specs.declared.Silent.{Silent}
use Rattle.session.specs.Writing.{parameters_of, memory_after, idle_answer}
use Rattle.session.specs.Calls.{MadeWith, locked_with, acquired}
use Rattle.callers.specs.declared.both_ends.SenderSettings.{SenderSettings}
use Rattle.callers.specs.BothEnds.{and_then, frame_answer, octets_after, acquisition_answer, first_answer, two_answer, octets_written, memory_after_two, parameters, two_frames, two_octets, SentInFront, SentBehind, IsStretchInFront}
use Rattle.callers.proofs.Answered.{acquiring_counts}

module _ (w n k : ℕ) (memory part : List ℕ) (within : w ≤ length memory) (there : n ≤ length part) where
  w_long : length (take w memory) ≡ w
  w_long = length-take-le w memory within

  -- what lies in front after a write behind w octets
  taken : take (w + n) (take w memory ++ (part ++ post_of w k memory)) ≡ take w memory ++ take n part
  taken =
      ap (λ m. take (m + n) (take w memory ++ (part ++ post_of w k memory))) (sym w_long)
      ∙ take-append-add (take w memory) (part ++ post_of w k memory) n
      ∙ ap (λ l. take w memory ++ l) (take-append-le n part (post_of w k memory) there)

  -- and what lies behind
  dropped : k ≡ length memory - w → drop n part ≡ drop n (drop w memory) → drop (w + n) (take w memory ++ (part ++ post_of w k memory)) ≡ drop (w + n) memory
  dropped all rest =
      ap (λ m. drop (m + n) (take w memory ++ (part ++ post_of w k memory))) (sym w_long)
      ∙ drop-append-add (take w memory) (part ++ post_of w k memory) n
      ∙ drop-append-le n part (post_of w k memory) there
      ∙ ap (λ l. drop n part ++ l) (drop_all k (drop w memory) (omega (arith, length-drop w memory)))
      ∙ append-nil (drop n part) ∙ rest ∙ drop-drop n w memory

  long : n + w ≤ length (take w memory ++ (part ++ post_of w k memory))
  long = omega (arith, length-append (take w memory) (part ++ post_of w k memory), length-append part (post_of w k memory), w_long)

pub sent_behind : (before after : Locked) (frame memory part lent : List ℕ) (w n k : ℕ) → w ≤ length memory → k ≡ length memory - w → lent ≡ take k (drop w memory) → length part ≡ length lent →
    SentInFront before frame lent part after n →
    SentBehind before frame w memory (take w memory ++ (part ++ post_of w k memory)) after (w + n)
sent_behind before after frame memory part lent w n k within all is as_long sent =
    let whole : take k (drop w memory) ≡ drop w memory = take_all k (drop w memory) (omega (arith, length-drop w memory)) in
    let there : n ≤ length part = omega (arith, sent.within, as_long) in
    let parameters = parameters_of before.settings in
    record {
      same = sent.same;
      further = omega arith;
      within = omega (arith, long w n k memory part within there);
      stretch = λ acquisition earlier so_far.
          taken w n k memory part within there ∙ ap (λ l. l ++ take n part) so_far ∙ sent.goes_on acquisition earlier;
      rest = dropped w n k memory part within there all (sent.rest ∙ ap (drop n) (is ∙ whole));
      fits = sent.fits;
    }

-- the parameters and the limit of a session that was made with these
pub made_parameters : (sender : SenderSettings) (silent : Silent) → MadeWith Two sender.«limit» sender.randomizer sender.idle silent → parameters_of silent.settings ≡ parameters sender
made_parameters sender silent made = λ i. record { plop = made.its-plop i; randomizer = made.its-randomizer i; idle = made.its-idle i }

limit_kept : (n m : ℕ) (b : Bool) → cond b (Ok n) (Err CodeblockLimit) ≡ Ok m → m ≡ n
limit_kept n m true e = cc
limit_kept n m false e = absurd (cc)

pub made_limit : (sender : SenderSettings) (silent : Silent) → MadeWith Two sender.«limit» sender.randomizer sender.idle silent → silent.settings.sender.limit.count ≡ sender.«limit»
made_limit sender silent made = limit_kept sender.«limit» _ (nat_le 1 sender.«limit» && nat_le sender.«limit» 147) made.its-limit

same_answer : (limit_a limit_b long_a long_b w : ℕ) (a b : Parameters) (frame : List ℕ) → limit_a ≡ limit_b → a ≡ b → long_a ≡ long_b →
    frame_answer limit_a a long_a frame w ≡ frame_answer limit_b b long_b frame w
same_answer limit_a limit_b long_a long_b w a b frame limits settings lengths =
    ap₂ (λ n p. frame_answer n p long_a frame w) limits settings ∙ ap (λ m. frame_answer limit_b b m frame w) lengths

pub both_within : (limit : ℕ) (first second : List ℕ) → FramesWithin limit (first ∷ []) → FramesWithin limit (second ∷ []) → FramesWithin limit (first ∷ second ∷ [])
both_within limit first second one other = (one.0, one.1, one.2, other)

further_on : (m n : ℕ) (xs ys : List ℕ) → m ≤ n → drop m xs ≡ drop m ys → drop n xs ≡ drop n ys
further_on m n xs ys more same =
    let n-is : m + (n - m) ≡ n = omega arith in
    ap (λ k. drop k xs) (sym n-is) ∙ sym (drop-drop (n - m) m xs) ∙ ap (drop (n - m)) same ∙ drop-drop (n - m) m ys ∙ ap (λ k. drop k ys) n-is

-- an acquisition that was written
pub record Begun (carrier : Carrier) (memory now : List ℕ) (locked : Locked) (count : ℕ) : Type 0 where
  pub same : locked.settings ≡ carrier.settings
  pub within : count ≤ length now
  pub rest : drop count now ≡ drop count memory

begun_by : (carrier : Carrier) (n : ℕ) (short long : Bool) (octets memory now : List ℕ) (done : Locked × ℕ) → length octets ≡ n →
    Ok done ≡ acquired carrier (cond short (Err MemoryTooShort) (cond long (Ok n) (Err IdleLength))) →
    now ≡ memory_after octets memory (cond short (Err MemoryTooShort) (cond long (Ok n) (Err IdleLength))) → Begun carrier memory now done.0 done.1
begun_by carrier n true long octets memory now done e answer is = absurd (cc)
begun_by carrier n false false octets memory now done e answer is = absurd (cc)
begun_by carrier n false true octets memory now done e answer is =
    let as_told : done ≡ (locked_with carrier.settings, n) = cc in
    let count-is : done.1 ≡ n = ap (λ d. d.1) as_told in
    record {
      same = ap (λ d. d.0.settings) as_told;
      within = omega (arith, count-is, e, ap length is, length-append octets (drop (length octets) memory));
      rest =
          ap (λ k. drop k now) count-is ∙ ap (drop n) is ∙ drop_at octets (drop (length octets) memory) n e
          ∙ ap (λ k. drop k memory) (e ∙ sym count-is);
    }

pub begun : (carrier : Carrier) (acquisition : ℕ) (memory now : List ℕ) (done : Locked × ℕ) →
    Ok done ≡ acquired carrier (idle_answer 16 255 acquisition memory) →
    now ≡ memory_after (repeated carrier.settings.idle acquisition) memory (idle_answer 16 255 acquisition memory) → Begun carrier memory now done.0 done.1
begun carrier acquisition memory now done answer is =
    begun_by carrier acquisition (nat_lt (length memory) acquisition) (is_in_range 16 255 acquisition) (repeated carrier.settings.idle acquisition) memory now done
    (length-replicate acquisition (idle_octet carrier.settings.idle)) answer is

-- a stretch of so many octets in front of a memory whose rest is as it was
pub record Reached (settings : Parameters) (acquisition : ℕ) (sent : List Writing) (memory now : List ℕ) (octets : ℕ) : Type 0 where
  pub within : octets ≤ length now
  pub front : take octets now ≡ stretch_octets settings acquisition sent
  pub rest : drop octets now ≡ drop octets memory

-- it is as much of each longer one
pub as_far : (settings : Parameters) (acquisition octets : ℕ) (sent more : List Writing) (memory now : List ℕ) → Reached settings acquisition sent memory now octets →
    now ≡ take octets (stretch_octets settings acquisition (sent ++ more)) ++ drop octets memory
as_far settings acquisition octets sent more memory now so_far =
    let front = stretch_octets settings acquisition sent in
    let behind = flat_map (octets_in settings) more in
    let long : length front ≡ octets = ap length (sym so_far.front) ∙ length-take-le octets now so_far.within in
    let begins : stretch_octets settings acquisition (sent ++ more) ≡ front ++ behind =
    ap (λ l. repeated settings.idle acquisition ++ l) (flat_map-append (octets_in settings) sent more)
    ∙ sym (append_assoc (repeated settings.idle acquisition) (flat_map (octets_in settings) sent) behind) in
    sym (take-append-drop octets now)
    ∙ ap₂ (λ l m. l ++ m) (so_far.front ∙ sym (take_at front behind octets long) ∙ ap (take octets) (sym begins)) so_far.rest

one_more : (before after : Locked) (acquisition w n : ℕ) (sent : List Writing) (frame memory mid now : List ℕ) →
    SentBehind before frame w mid now after n → Reached (parameters_of before.settings) acquisition sent memory mid w →
    Reached (parameters_of before.settings) acquisition (sent ++ sends frame ∷ idles 0 ∷ []) memory now n
one_more before after acquisition w n sent frame memory mid now behind so_far =
    record {
      within = behind.within;
      front = behind.stretch acquisition sent so_far.front;
      rest = behind.rest ∙ further_on w n mid memory behind.further so_far.rest;
    }

-- a session as it was made, which has sent the first frame behind the acquisition
pub record FirstSent
    (sender : SenderSettings) (acquisition : ℕ) (first second memory mid : List ℕ) (next : Locked) (sent : ℕ) : Type 0 where
  pub parameters-are : parameters_of next.settings ≡ parameters sender
  pub limit-is : next.settings.sender.limit.count ≡ sender.«limit»
  pub long : length mid ≡ length memory
  pub reached : Reached (parameters sender) acquisition (sends first ∷ idles 0 ∷ []) memory mid sent
  pub fits : FramesWithin sender.«limit» (first ∷ [])
  pub acquired_octets : ℕ
  pub acquisition_counts : acquisition_answer sender acquisition first second memory ≡ Ok acquired_octets
  pub first_counts : first_answer sender acquisition first second memory ≡ Ok sent

pub first_sent : (sender : SenderSettings) (acquisition : ℕ) (first second memory start mid : List ℕ) (silent : Silent) (carrier : Carrier) (done : Locked × ℕ) (next : Locked) (sent : ℕ) →
    MadeWith Two sender.«limit» sender.randomizer sender.idle silent → carrier.settings ≡ silent.settings →
    Ok done ≡ acquired carrier (idle_answer 16 255 acquisition memory) →
    start ≡ memory_after (repeated carrier.settings.idle acquisition) memory (idle_answer 16 255 acquisition memory) →
    take done.1 start ≡ stretch_octets (parameters_of carrier.settings) acquisition [] →
    length start ≡ length memory → length mid ≡ length start → SentBehind done.0 first done.1 start mid next sent →
    Ok sent ≡ frame_answer done.0.settings.sender.limit.count (parameters_of done.0.settings) (length start) first done.1 →
    FirstSent sender acquisition first second memory mid next sent
first_sent sender acquisition first second memory start mid silent carrier done next sent made raised taken_in is begins start-long mid-long behind answer =
    let begun-so = begun carrier acquisition memory start done taken_in is in
    let done-is : done.0.settings ≡ silent.settings = begun-so.same ∙ raised in
    let next-is : next.settings ≡ silent.settings = behind.same ∙ done-is in
    let its : parameters_of done.0.settings ≡ parameters sender = ap parameters_of done-is ∙ made_parameters sender silent made in
    let limit-was : done.0.settings.sender.limit.count ≡ sender.«limit» = ap (λ set. set.sender.limit.count) done-is ∙ made_limit sender silent made in
    let so_far : Reached (parameters_of done.0.settings) acquisition [] memory start done.1 = record {
      within = begun-so.within;
      front = begins ∙ ap (λ set. stretch_octets (parameters_of set) acquisition []) (sym begun-so.same);
      rest = begun-so.rest;
    } in
    let counts : acquisition_answer sender acquisition first second memory ≡ Ok done.1 =
    ap (λ r. and_then r (λ _. idle_answer 16 255 acquisition memory)) made.its-limit
    ∙ sym (acquiring_counts carrier (idle_answer 16 255 acquisition memory) (Ok done) taken_in) in
    record {
      parameters-are = ap parameters_of behind.same ∙ its;
      limit-is = ap (λ set. set.sender.limit.count) behind.same ∙ limit-was;
      long = mid-long ∙ start-long;
      reached = subst (λ p. Reached p acquisition (sends first ∷ idles 0 ∷ []) memory mid sent) its
          (one_more done.0 next acquisition done.1 sent [] first memory start mid behind so_far);
      fits = subst (λ n. FramesWithin n (first ∷ [])) limit-was behind.fits;
      acquired_octets = done.1;
      acquisition_counts = counts;
      first_counts =
          ap (λ r. and_then r (frame_answer sender.«limit» (parameters sender) (length memory) first)) counts
          ∙ sym (answer ∙ same_answer _ _ _ _ done.1 _ _ first limit-was its start-long);
    }

module _ (sender : SenderSettings) (acquisition sent : ℕ) (first second memory mid : List ℕ) (next : Locked) (so_far : FirstSent sender acquisition first second memory mid next sent) where
  -- what all calls answer together, by what the last one answers
  pub two_answered : (answer : Result ℕ Refusal) → answer ≡ frame_answer next.settings.sender.limit.count (parameters_of next.settings) (length mid) second sent →
      answer ≡ two_answer sender acquisition first second memory
  two_answered answer is =
      is ∙ same_answer _ _ _ _ sent _ _ second so_far.limit-is so_far.parameters-are so_far.long
      ∙ ap (λ r. and_then r (frame_answer sender.«limit» (parameters sender) (length memory) second)) (sym so_far.first_counts)

  two_written : (answer : Result ℕ Refusal) → answer ≡ two_answer sender acquisition first second memory →
      octets_written sender acquisition first second memory ≡ octets_after sent answer
  two_written answer is =
      let both = two_answer sender acquisition first second memory in
      ap (λ r. octets_after (octets_after (octets_after 0 r) (first_answer sender acquisition first second memory)) both) so_far.acquisition_counts
      ∙ ap (λ r. octets_after (octets_after so_far.acquired_octets r) both) so_far.first_counts
      ∙ ap (octets_after sent) (sym is)

  -- the second frame is refused, and leaves the memory as it is
  pub second_refused : (why : Refusal) (now : List ℕ) → Err why ≡ two_answer sender acquisition first second memory → now ≡ mid →
      now ≡ memory_after_two sender acquisition first second memory
  second_refused why now is kept =
      kept ∙ as_far (parameters sender) acquisition sent (sends first ∷ idles 0 ∷ []) (sends second ∷ idles 0 ∷ []) memory mid so_far.reached
      ∙ ap (λ n. take n (two_octets sender acquisition first second) ++ drop n memory) (sym (two_written (Err why) is))

  -- or both are sent
  module _ (now : List ℕ) (end : Locked) (last : ℕ) (behind : SentBehind next second sent mid now end last) where
    both_reached : Reached (parameters sender) acquisition (two_frames first second) memory now last
    both_reached =
        subst (λ p. Reached p acquisition (two_frames first second) memory now last) so_far.parameters-are
        (one_more next end acquisition sent last (sends first ∷ idles 0 ∷ []) second memory mid now behind
        (subst (λ p. Reached p acquisition (sends first ∷ idles 0 ∷ []) memory mid sent) (sym so_far.parameters-are) so_far.reached))

    pub both_in_memory : Ok last ≡ two_answer sender acquisition first second memory →
        now ≡ memory_after_two sender acquisition first second memory
    both_in_memory is =
        as_far (parameters sender) acquisition last (two_frames first second) [] memory now both_reached
        ∙ ap (λ n. take n (two_octets sender acquisition first second) ++ drop n memory) (sym (two_written (Ok last) is))

    pub both_in_front : IsStretchInFront sender acquisition first second now last
    both_in_front =
        record {
          within = both_reached.within;
          written = both_reached.front;
          fit = both_within sender.«limit» first second so_far.fits (subst (λ n. FramesWithin n (second ∷ [])) so_far.limit-is behind.fits);
        }
