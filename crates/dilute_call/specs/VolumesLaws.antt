-- Laws: 0 is answered exactly if there are volumes; else both out-parameters keep what they held. Assumes nothing.
use Rattle.std.specs.Prelude.{ℕ, ◌≡◌, refl, List, ◌↔◌, Err, Ok}
use Rattle.std.proofs.Common.{ap}
use Rattle.dilution.specs.Dilution.{dilution_code, dilute_rule}
use Rattle.dilution.specs.DilutionLaws.{dilute_numbered}
use Rattle.dilution.specs.Dilution.{Dilution}
use Rattle.dilution.specs.Dilution.{volumes}
use Rattle.dilution.specs.declared.Volumes.{Volumes}
use Rattle.dilute_call.specs.Volumes.{volumes_out}

pub volumes-kept : (answer : Dilution) (old : Volumes) → ((volumes_out answer old).answer ≡ 0 → ⊥) → (volumes_out answer old).held ≡ old
unfolding volumes_out dilution_code
volumes-kept (Ok v) old other = absurd (other refl)
volumes-kept (Err n) old other = refl

-- the answer has volumes
abbrev pub HasVolumes : Dilution → Type 0
HasVolumes a = (sample : ℕ) × (diluent : ℕ) × (a ≡ Ok (volumes sample diluent))

told : (a : Dilution) → ((n : ℕ) → a ≡ Err n → n ≡ 0 → ⊥) → (dilution_code a ≡ 0) ↔ HasVolumes a
unfolding dilution_code
told (Ok v) numbered = ((λ e. (v.sample, v.diluent, refl)), (λ h. refl))
told (Err n) numbered = ((λ e. absurd (numbered n refl e)), (λ h. ap dilution_code h.2))

pub dilute_told : (t b : List ℕ) (barcodeField field : ℕ) (barcode : List ℕ) (target final : ℕ)
    → let answer = dilute_rule t b barcodeField field barcode target final in (dilution_code answer ≡ 0) ↔ HasVolumes answer
dilute_told t b barcodeField field barcode target final = told _ (dilute_numbered t b barcodeField field barcode target final)
