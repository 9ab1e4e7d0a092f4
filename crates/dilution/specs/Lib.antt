-- The dilution of one barcode, in the order in which its parts rest on one another. Rules are what a reader must believe; laws are proved.

-- Rules: the checks in their order, the two volumes, the answer
pub mod Dilution
-- Laws: the sample is the nearest tenth, halves up; sample and diluent add to the final volume
pub mod VolumeLaws
-- Laws: how the code's tests meet the checks
pub mod StepLaws
-- Laws: the record that has a barcode, once table and index match
pub mod BarcodeLaws
-- Laws: the call's answer by its checks; a record's answer is what the call gives for the record's barcode
pub mod DilutionLaws
-- Laws: what an answer with volumes says
pub mod AnswerLaws
