-- What was written to a new text of fixed room is what it shows. Assumes nothing.
-- Read first: `print_number` in src/lib.rt.
use Rattle.std.proofs.Common.{◌≡◌, ℕ, List, [], ◌∷◌, ◌++◌, codes, sym, ap, ◌∙◌, append-nil, append_assoc}
use Rattle.std.specs.List.{concat, FoldsTo}
use Rattle.std.specs.Fmt.{WritesInCalls}
use Rattle.std.specs.Fmt.InlineText.{inline_text, IsIntact, AppendsIfIntact}
use Rattle.std.specs.declared.fmt.InlineText.{InlineText}

module _ {n : ℕ} where
  appended : (w : InlineText n) (parts : List (List ℕ)) (v : InlineText n) → FoldsTo AppendsIfIntact w parts v → IsIntact w →
      inline_text v ≡ inline_text w ++ concat parts
  appended w [] v e i = ap inline_text (sym e) ∙ sym (append-nil (inline_text w))
  appended w (p ∷ ps) v f i =
      let a = f.1 i in appended f.0 ps v f.2 a.0 ∙ ap (λ z. z ++ concat ps) a.1 ∙ append_assoc (inline_text w) p (concat ps)

  pub text_written : (w v : InlineText n) (bs : List ℕ) → inline_text w ≡ [] → IsIntact w → WritesInCalls AppendsIfIntact w bs v → inline_text v ≡ bs
  text_written w v bs e i h = appended w h.parts v h.calls i ∙ ap (λ z. z ++ concat h.parts) e ∙ h.whole

-- the words and numbers of a refusal
pub refused_written : (w v : InlineText 64) (a b : List ℕ) → inline_text w ≡ [] → IsIntact w →
    WritesInCalls AppendsIfIntact w (codes "refused " ++ (a ++ (codes " at " ++ b))) v → inline_text v ≡ codes "refused " ++ a ++ codes " at " ++ b
refused_written w v a b e i h = text_written w v _ e i h ∙ ap (λ z. codes "refused " ++ z) (sym (append_assoc a (codes " at ") b))
