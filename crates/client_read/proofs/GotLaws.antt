-- What a read has got, with the holes behind it.
use Rattle.std.proofs.Common.{◌≡◌, ℕ, ◌+◌, ◌-◌, List, [], ◌∷◌, ◌++◌, length, take, drop, Bool, true, false, if◌then◌else◌, refl, sym, ap, ◌∙◌, append_assoc, append-nil, length-append, arith}
use Rattle.std.proofs.lemmas.List.{length-replicate}
use Rattle.std.proofs.Math.Seq.{take-append_seam, drop-append_seam}
use Rattle.flr_base.specs.Bytes.{zeros}
use Rattle.flr_base.specs.declared.reply.Take.{Take}
use Rattle.flr_base.specs.declared.reply.TakeFrom.{TakeFrom}
use Rattle.flr_base.specs.declared.reply.TakeFrom.TheVariants.{Hole}
use Rattle.mirror_select.specs.declared.types.Piece.{Piece}
use Rattle.client_read.specs.Got.{GotView}
use Rattle.call_steps.specs.Pieces.{length_of}
use Rattle.client_read.specs.Pieces.{is_hole, take_of, with_piece, with_holes, nothing_got}

-- what is got behind what was had
abbrev pub behind : GotView → GotView → GotView
behind g h = record { bytes = g.bytes ++ h.bytes; takes = g.takes ++ h.takes }

got_same : (a b : List ℕ) (s t : List Take) → a ≡ b → s ≡ t → ◌≡◌ {A = GotView} (record { bytes = a; takes = s }) (record { bytes = b; takes = t })
got_same a b s t e f = ap (λ (x : List ℕ). let r : GotView = record { bytes = x; takes = s } in r) e ∙ ap (λ (x : List Take). let r : GotView = record { bytes = b; takes = x } in r) f

behind_piece : (g h : GotView) (p : Piece) (bytes : List ℕ) (source : TakeFrom) → with_piece p bytes source (behind g h) ≡ behind g (with_piece p bytes source h)
behind_piece g h p bytes source = got_same _ _ _ _ (append_assoc g.bytes h.bytes bytes) (append_assoc g.takes h.takes (take_of p source ∷ []))

-- holes behind what was had
holes_behind : (ps : List Piece) (g h : GotView) → with_holes ps (behind g h) ≡ behind g (with_holes ps h)
holes_behind [] g h = refl
holes_behind (p ∷ ps) g h =
    by (is_hole p) (ap (with_holes ps) (behind_piece g h p (zeros (length_of p)) Hole) ∙ holes_behind ps g (with_piece p (zeros (length_of p)) Hole h))
  where
    by : (b : Bool) → with_holes ps (with_piece p (zeros (length_of p)) Hole (behind g h)) ≡ behind g (with_holes ps (with_piece p (zeros (length_of p)) Hole h)) → (if b then with_holes ps (with_piece p (zeros (length_of p)) Hole (behind g h)) else behind g h) ≡ behind g (if b then with_holes ps (with_piece p (zeros (length_of p)) Hole h) else h)
    by true more = more
    by false more = refl

-- what a read has got with holes is what it has got, and the holes behind it
pub holes_are : (ps : List Piece) (g : GotView) → with_holes ps g ≡ behind g (with_holes ps nothing_got)
holes_are ps g = ap (with_holes ps) (got_same _ _ _ _ (sym (append-nil g.bytes)) (sym (append-nil g.takes))) ∙ holes_behind ps g nothing_got

-- the piece is read over its zeros, before the holes behind it
pub read_in : (ps : List Piece) (p : Piece) (source : TakeFrom) (n : ℕ) (new : ℕ → List ℕ) (g with_zeros with_rest : GotView) (now over : List ℕ) (takes : List Take) (start end : ℕ) →
    with_zeros ≡ with_piece p (zeros n) source g → with_rest ≡ with_holes ps with_zeros → ◌≡◌ {A = GotView} (record { bytes = now; takes = takes }) with_rest →
    start ≡ length g.bytes → end ≡ length with_zeros.bytes →
    over ≡ take start now ++ (new (end - start) ++ drop (end - start) (drop start now)) →
    ◌≡◌ {A = GotView} (record { bytes = over; takes = takes }) (with_holes ps (with_piece p (new n) source g))
read_in ps p source n new g with_zeros with_rest now over takes start end zeroed holes same a b overs =
    got_same _ _ _ _ (overs ∙ bytes ∙ sym (ap (λ (x : GotView). x.bytes) (holes_are ps (with_piece p (new n) source g)))) (ap (λ (x : GotView). x.takes) all ∙ sym (ap (λ (x : GotView). x.takes) (holes_are ps (with_piece p (new n) source g))))
  where
    rest : List ℕ
    rest = (with_holes ps nothing_got).bytes

    all : ◌≡◌ {A = GotView} (record { bytes = now; takes = takes }) (behind (with_piece p (zeros n) source g) (with_holes ps nothing_got))
    all = same ∙ holes ∙ ap (with_holes ps) zeroed ∙ holes_are ps (with_piece p (zeros n) source g)

    is : now ≡ g.bytes ++ (zeros n ++ rest)
    is = ap (λ (x : GotView). x.bytes) all ∙ append_assoc g.bytes (zeros n) rest

    front : take start now ≡ g.bytes
    front = ap (λ (k : ℕ). take k now) a ∙ ap (take (length g.bytes)) is ∙ take-append_seam g.bytes (zeros n ++ rest)

    past : drop start now ≡ zeros n ++ rest
    past = ap (λ (k : ℕ). drop k now) a ∙ ap (drop (length g.bytes)) is ∙ drop-append_seam g.bytes (zeros n ++ rest)

    count : length (zeros n) ≡ n
    count = length-replicate n 0

    span : end - start ≡ n
    span =
        let e : end ≡ length (g.bytes ++ zeros n) = b ∙ ap (λ (x : GotView). length x.bytes) zeroed in
        let l : length (g.bytes ++ zeros n) ≡ length g.bytes + length (zeros n) = length-append g.bytes (zeros n) in
        omega (arith, e, l, count, a)

    last : drop (end - start) (drop start now) ≡ rest
    last = ap (λ (k : ℕ). drop k (drop start now)) (span ∙ sym count) ∙ ap (drop (length (zeros n))) past ∙ drop-append_seam (zeros n) rest

    bytes : take start now ++ (new (end - start) ++ drop (end - start) (drop start now)) ≡ (g.bytes ++ new n) ++ rest
    bytes =
        ap (λ (x : List ℕ). x ++ (new (end - start) ++ drop (end - start) (drop start now))) front
        ∙ ap (λ (x : List ℕ). g.bytes ++ (new (end - start) ++ x)) last ∙ ap (λ (k : ℕ). g.bytes ++ (new k ++ rest)) span ∙ sym (append_assoc g.bytes (new n) rest)
