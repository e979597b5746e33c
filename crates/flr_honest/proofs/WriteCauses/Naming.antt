-- The file that a write or a truncate has opened, right behind that step.
use Rattle.std.proofs.Common.{◌≡◌, ℕ, Bool, true, false, cond, nat_eq, Some, List, refl, ap, ◌∙◌}
use Rattle.std.specs.Option.{option_map}
use Rattle.std.proofs.lemmas.Bool.{eq-eqb}
use Rattle.flr_base.specs.declared.reply.Range.{Range}
use Rattle.composite_layout.specs.Layouts.{Composite}
use Rattle.layout_lease.proofs.Lists.{find_mapped}
use Rattle.meta_server.specs.declared.answers.Opened.{Opened}
use Rattle.meta_server.specs.Files.{File, MetaView, changed, file_named, same_name, with_layout, with_share}
use Rattle.meta_server.specs.Layouts.{intended}
use Rattle.meta_server.specs.Opening.{change_opens_file, shares, with_intent}
use Rattle.meta_server.specs.Outcomes.{Outcome, Gives, Refuses, Waits}
use Rattle.flr_numbers.proofs.Coming.{open_cases}

-- the file of this name is the one that was opened, with the layout that was got
pub record IsThat (name : List ℕ) (o : Opened) (m : MetaView) : Type 0 where
  pub file : File
  pub named : file_named name m.files ≡ Some file
  pub number : file.number ≡ o.file
  pub layout : file.layout ≡ o.layout

abbrev pub OpensThat : List ℕ → Outcome Opened → Type 0
OpensThat name (Gives o after) = IsThat name o after
OpensThat name (Refuses reply) = Unit {0}
OpensThat name (Waits holder) = Unit {0}

-- a change of the file that has this name
changed_named : (name : List ℕ) (g : File → File) (files : List File) (f : File) → ((x : File) → (g x).name ≡ x.name) → file_named name files ≡ Some f
    → file_named name (changed f.number g files) ≡ Some (g f)
changed_named name g files f keeps e =
    find_mapped (λ (x : File). same_name name x.name) (λ (x : File). cond (nat_eq x.number f.number) (g x) x) (λ x. by (nat_eq x.number f.number) x) files
    ∙ ap (option_map (λ (x : File). cond (nat_eq x.number f.number) (g x) x)) e
    ∙ ap (λ (b : Bool). Some (cond b (g f) f)) (eq-eqb f.number f.number refl)
  where
    by : (b : Bool) (x : File) → same_name name (cond b (g x) x).name ≡ same_name name x.name
    by true x = ap (same_name name) (keeps x)
    by false x = refl

module _ (client : ℕ) (range : Range) (step : ℕ) (m : MetaView) (name : List ℕ) where
  shares_that : (f : File) (n : MetaView) → file_named name n.files ≡ Some f → OpensThat name (shares client f n)
  shares_that f n e = record { file = with_share client f; named = changed_named name (with_share client) n.files f (λ x. refl) e; number = refl; layout = refl }

  -- whichever it is that it gives
  pub opens_that : (too_big : Bool) → OpensThat name (change_opens_file client range step m name too_big (file_named name m.files))
  opens_that too_big = open_cases (OpensThat name) client name range step m too_big (record {
    refuses = λ answer. tt;
    waits = λ holder. tt;
    shared = λ f b e ready. shares_that f m e;
    intended = λ f mirror b e primary alone.
        (let l : Composite = intended range mirror f.number m.nexts f.layout in shares_that (with_layout l f) (with_intent range mirror step f m) (changed_named name (with_layout l) m.files f (λ x. refl) e));
  })
