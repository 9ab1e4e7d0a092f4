-- What the dilution of a barcode hands to C. Rules are what a reader must believe; laws are proved.

-- Rules: the answer's number and the two volumes
pub mod Volumes
-- Laws: 0 is answered exactly if there are volumes; out-parameters keep what they held
pub mod VolumesLaws
