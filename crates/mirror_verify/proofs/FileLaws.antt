-- The file of a name, by its place, and how it is opened.
use Rattle.std.proofs.Common.{◌≡◌, ℕ, ◌+◌, ◌<◌, ◌≤◌, List, length, drop, Bool, true, false, cond, sym, ap, ◌∙◌, Some, None}
use Rattle.std.proofs.lemmas.List.{at_drop_all, at_drop_more}
use Rattle.meta_server.specs.declared.answers.Opened.{Opened}
use Rattle.meta_server.specs.Files.{File, MetaView, file_at, file_named, no_file, same_name, with_change, with_share}
use Rattle.meta_server.specs.Opening.{opened}
use Rattle.meta_server.specs.Outcomes.{Gives}
use Rattle.call_steps.specs.Servers.{Servers}
use Rattle.call_steps.specs.Steps.{Going}
use Rattle.mirror_verify.specs.declared.copies.BlockCopy.{BlockCopy}
use Rattle.mirror_verify.specs.declared.phase.VerifyAt.{VerifyAt}
use Rattle.mirror_verify.specs.Blocks.{copies_of, next_object}
use Rattle.mirror_verify.specs.Findings.{Finding, no_finding}
use Rattle.mirror_verify.specs.Verifies.{begins_with, opens_file, takes_from, verify_on}
use Rattle.mirror_verify.specs.Views.{VerifyView}
use Rattle.mirror_verify.proofs.CopyLaws.{holes_are_alike}

-- what is found from a place on
from_place : (name : List ℕ) (files : List File) (place : ℕ) (b : Bool) → place < length files → same_name name (file_at files place).name ≡ b → file_named name (drop place files) ≡ cond b (Some (file_at files place)) (file_named name (drop (place + 1) files))
from_place name files place b lt e =
    at_drop_more (file_named name) files place no_file lt ∙ ap (λ (c : Bool). cond c (Some (file_at files place)) (file_named name (drop (place + 1) files))) e

-- the file at the place is found
pub found_here : (name : List ℕ) (files : List File) (place : ℕ) → file_named name files ≡ file_named name (drop place files) → place < length files → same_name name (file_at files place).name ≡ true → Some (file_at files place) ≡ file_named name files
found_here name files place left lt e = sym (left ∙ from_place name files place true lt e)

-- it is found behind the place
pub found_behind : (name : List ℕ) (files : List File) (place : ℕ) → file_named name files ≡ file_named name (drop place files) → place < length files → same_name name (file_at files place).name ≡ false → file_named name files ≡ file_named name (drop (place + 1) files)
found_behind name files place left lt e = left ∙ from_place name files place false lt e

-- behind all places none is found
pub found_nowhere : (name : List ℕ) (files : List File) (place : ℕ) → file_named name files ≡ file_named name (drop place files) → length files ≤ place → file_named name files ≡ None
found_nowhere name files place left past = left ∙ at_drop_all (file_named name) files place past

-- a verify opens the file of its name
pub opens : (v : VerifyView) (s : Servers) (f : File) (o : Opened) (m : MetaView) (copies : List BlockCopy) (found : Finding) (a : VerifyAt) (r : VerifyView) → Some f ≡ file_named v.name s.meta.files → Gives (opened v.client f) (with_change f.number (with_share v.client) s.meta) ≡ Gives o m →
    copies ≡ copies_of f.layout.components f.size → found ≡ no_finding → a ≡ takes_from (record { opened = o; copies = copies; found = found }) (next_object copies 0) → r ≡ verify_on v a →
    opens_file v s (file_named v.name s.meta.files) ≡ Going r (record s { meta = m })
opens v s f o m copies found a r named gives copied none next is =
    ap (opens_file v s) (sym named) ∙ ap (λ (w : VerifyView). Going w (record s { meta = with_change f.number (with_share v.client) s.meta })) begun ∙ ap (λ (n : MetaView). Going r (record s { meta = n })) after
  where
    given : opened v.client f ≡ o
    given = cc

    after : with_change f.number (with_share v.client) s.meta ≡ m
    after = cc

    begun : begins_with v (opened v.client f) (copies_of f.layout.components f.size) ≡ r
    begun =
        ap (λ (p : Opened). begins_with v p (copies_of f.layout.components f.size)) given
        ∙ ap (λ (c : List BlockCopy). begins_with v o c) (sym copied)
        ∙ ap (λ (d : Finding). verify_on v (takes_from (record { opened = o; copies = copies; found = d }) (next_object copies 0))) (holes_are_alike copies ∙ sym none)
        ∙ ap (verify_on v) (sym next) ∙ sym is
