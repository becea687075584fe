pub mod CertificateLaws
pub mod EditLaws
