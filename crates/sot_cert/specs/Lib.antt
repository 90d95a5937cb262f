-- what the public contracts say
pub mod CertFormat
-- worked values
pub mod CertExamples
